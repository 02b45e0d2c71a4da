-- The status tells the end.
use Rattle.std.proofs.Common.{◌≡◌, ◌⊎◌, ℕ, Bool, false, List, Option, refl, subst, arith, inl, inr, ⊎_elim}
use Rattle.space_io.specs.Causes.{Rose, TellsEnd}
use Rattle.space_run.specs.Ends.{status_of, EndsAs, HasFailed}
use Rattle.space_run.specs.Replays.{IsCalm}
use Rattle.space_run.specs.declared.end.End.{End}
use Rattle.space_run.specs.declared.end.End.TheVariants.{Complete, Malformed, ReadFault, WriteFault, InputLimit}

pub is_complete : (end : End) → status_of end ≡ 0 → end ≡ Complete
is_complete Complete e = refl
is_complete Malformed e = absurd (omega arith)
is_complete ReadFault e = absurd (omega arith)
is_complete WriteFault e = absurd (omega arith)
is_complete InputLimit e = absurd (omega arith)

pub is_malformed : (end : End) → status_of end ≡ 3 → end ≡ Malformed
is_malformed Complete e = absurd (omega arith)
is_malformed Malformed e = refl
is_malformed ReadFault e = absurd (omega arith)
is_malformed WriteFault e = absurd (omega arith)
is_malformed InputLimit e = absurd (omega arith)

pub is_read_fault : (end : End) → status_of end ≡ 4 → end ≡ ReadFault
is_read_fault Complete e = absurd (omega arith)
is_read_fault Malformed e = absurd (omega arith)
is_read_fault ReadFault e = refl
is_read_fault WriteFault e = absurd (omega arith)
is_read_fault InputLimit e = absurd (omega arith)

pub is_write_fault : (end : End) → status_of end ≡ 5 → end ≡ WriteFault
is_write_fault Complete e = absurd (omega arith)
is_write_fault Malformed e = absurd (omega arith)
is_write_fault ReadFault e = absurd (omega arith)
is_write_fault WriteFault e = refl
is_write_fault InputLimit e = absurd (omega arith)

pub is_input_limit : (end : End) → status_of end ≡ 6 → end ≡ InputLimit
is_input_limit Complete e = absurd (omega arith)
is_input_limit Malformed e = absurd (omega arith)
is_input_limit ReadFault e = absurd (omega arith)
is_input_limit WriteFault e = absurd (omega arith)
is_input_limit InputLimit e = refl

-- the same end, at a limit that is the same
pub at_limit : (opened limit : ℕ) (r0 r : Option (List ℕ)) (n0 n : ℕ) (w0 w : Option (List ℕ)) (end : End) → opened ≡ limit →
    EndsAs opened r0 r n0 n w0 w end → EndsAs limit r0 r n0 n w0 w end
at_limit opened limit r0 r n0 n w0 w end same h = subst (λ l. EndsAs l r0 r n0 n w0 w end) same h

-- the end was told once at most
told_once : (m n : ℕ) (ended : Bool) → TellsEnd m n false ended → (n ≡ m) ⊎ Rose m n
told_once m n ended told = ⊎_elim (λ same. inl same.0) (λ rose. inr rose.0) told

pub ends_once : (limit : ℕ) (r0 r : Option (List ℕ)) (n0 n : ℕ) (w0 w : Option (List ℕ)) (end : End) → EndsAs limit r0 r n0 n w0 w end → (n ≡ n0) ⊎ Rose n0 n
ends_once limit r0 r n0 n w0 w Complete h = inr h.1
ends_once limit r0 r n0 n w0 w Malformed h = told_once n0 n h.ended h.told
ends_once limit r0 r n0 n w0 w ReadFault h = inl h.1
ends_once limit r0 r n0 n w0 w WriteFault h = told_once n0 n h.ended h.told
ends_once limit r0 r n0 n w0 w InputLimit h = inl h.1

-- where no count rose, no call has failed
pub no_fault : (reads0 reads writes0 writes : ℕ) (end : End) → HasFailed reads0 reads writes0 writes end → IsCalm reads0 reads writes0 writes →
    (end ≡ ReadFault → ⊥) × (end ≡ WriteFault → ⊥)
no_fault reads0 reads writes0 writes end failed calm = (λ e. calm.source (rw e at failed).0, λ e. calm.sink (rw e at failed).1)
