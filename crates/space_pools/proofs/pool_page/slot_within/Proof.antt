-- `slot_within` hands the slice of `slot_mut` on under a new name. What comes back has as many words as went, so that they are all that the slot holds then.
use Rattle.std.proofs.Common.{◌≡◌, ℕ, List, [], ◌∷◌, length, refl, sym, ap, w8, w32, MutBor}
use Rattle.std.proofs.raw_atomic.Walks.{proved}
use Rattle.std.specs.Simd.Lanes.{put_chunk}
use Rattle.std.proofs.lemmas.Simd.{put_chunk_whole, length-put_chunk}
use seplogic.Ra.Ura.{Ura}
use mir.Syntax.{named}
use mir.Val.{Val}
use base.Logic.{SProp, ent, sep, emp, ex, id⊢}
use base.Fml.{Lft, GName, Share, ftrue, flft, fobs, fbor}
use base.Stored.{coded_list}
use types.Logic.{Logic, sem}
use contract.Monad.{fact, fact_i}
use contract.Running.{tables}
use types.Kit.{‵, ◌⊛◌, raw, some, later, ◌$◌, ◌∵◌, !, qed, by, move, keep, drop, group, updating, now, show, split, split3, join, fsplit, fsplit3, fjoin, feq_l, feq_i, use1, use2, await, pick, rewrite, suffices, frame, done}
use types.Run.{stop, addr, and_then, no_more, returns, enter}
use types.ByLocal.{alloc_all, pass_all, free_all, look_at, get, through, sets, lands_as}
use types.SemTy.{cells, Arr, Body as Borrowed}
use types.Follow.{takes_part}
use types.Mut.{open_ref}
use denote.Array.{Array}
use denote.Builtin.{u8, u32, u64}
use denote.Exit.{yes, no}
use denote.Follow.{follows, follows_then}
use denote.FollowSlice.{heres_id, slice_of}
use denote.Laws.{Is, shows}
use denote.Memory.{mem}
use denote.Plain.{uint_vals, uint_Tells}
use denote.Ref.{mut_vals, mut_Tells}
use denote.Signature.{plain, mut_ref_to}
use denote.Slice.{MutSlice, Room, slice_val}
use denote.Steps.{nothing, heard, only, peeks}
use denote.Triple.Call.{calls_at}
use denote.Triple.Clauses.{lasts}
use denote.Triple.Spec.{triple_of}
use denote.Triple.Table.{framed}
use denote.Triple.Walked.{says, Stays, stay_dropped, ends_at, Goes-dropped, Goes-spent_ref}
use Rattle.space_pages.specs.Slots.{words_of, slot_words, with_slot}
use Rattle.space_pages.specs.contracts.page.SlotPage.{the_row}
use Rattle.space_pages.specs.contracts.page.SlotPage.slot_mut as g
use Rattle.space_pages.proofs.page.SlotPage.slot_mut.Met.{met}
use Rattle.space_pools.specs.contracts.pool_page.slot_within as f
use Rattle.space_pools.proofs.pool_page.slot_within.Statement.{statement}
use Rattle.space_pools.proofs.pool_page.slot_within.Code as code

abbrev stayed : Stays (f.ended).signature.params (f.ended).kept
stayed = (stay_dropped (mut_ref_to (0 ∷ []) tt (plain (λ _. the_row))) no, (stay_dropped (plain (λ _. u8)) yes, (stay_dropped (plain (λ _. u32)) yes, tt)))

-- the slice is lent for κ, lies at the offset o of the block b, is named γ and holds xs
module _ {M : Type 1} {𝓤 : Ura M} (𝓛 : Logic 𝓤) (κ : Lft) (q : Share) (b o : ℕ) (γ : GName) (xs : List ℕ) where
  open 𝓛 use {H, A}

  abbrev self : GName → MutBor (List ℕ)
  self δ = record { ref_ptr = (b, o); ghost_name = δ; now = xs }

  -- the slice under a new name, the token, and what the lender ends as
  abbrev Lent : GName → SProp 𝓤
  Lent δ = sep 𝓤 (sem 𝓛 ((MutSlice (named 0) κ u64).own_val (self δ) (slice_val (b, o) (length xs) ∷ [])))
      (sep 𝓤 (A.lft κ q) (sem 𝓛 (follows (Array u64 0) (Array u64 0) γ δ (put_chunk 0 xs))))

  -- as many words as there were are all of them
  back : (ws : List ℕ) → ent 𝓤 (sep 𝓤 (sem 𝓛 ((Arr (mem u64) (length xs)).own_at ws b o)) (emp 𝓤))
      (sem 𝓛 ((Arr (mem u64) (length xs)).own_at (put_chunk 0 xs ws) b o))
  back ws = qed 𝓛 (‵ ((Arr (mem u64) (length xs)).own_at ws b o) ∷ raw (emp 𝓤) ∷ []) ∵ fsplit ! $ feq_l ! (λ e.
      rewrite ! 0 (λ (l : List ℕ). ‵ (cells (mem u64) l b o)) (sym (put_chunk_whole xs ws (sym e))) refl $
      feq_i ! ℕ (length (put_chunk 0 xs ws)) (length xs) (length-put_chunk 0 xs ws) $ fjoin ! $ keep ! (0 ∷ []) $ done !)

  lends : Room u64 (length xs) → (vs : List Val)
      → ent 𝓤 (sep 𝓤 (sem 𝓛 ((MutSlice (named 0) κ u64).own_val (self γ) vs)) (A.lft κ q)) (H.⇛ (ex 𝓤 Lent))
  lends rm vs = qed 𝓛 (‵ ((MutSlice (named 0) κ u64).own_val (self γ) vs) ∷ ‵ (flft κ q) ∷ []) ∵ updating ! $ fsplit3 ! $ drop ! $
      rewrite ! 0 (λ (l : List ℕ). ‵ (fobs γ ((coded_list u64.coded).code l))) (heres_id u64 xs) refl $ open_ref ! tt (Arr (mem u64) (length xs)) {b = b}
      {o = o} $
      nothing ! $ move ! (2 ∷ 3 ∷ 4 ∷ 1 ∷ 0 ∷ []) $ group ! 5 $
      use1 𝓛 (later (some (λ (δ : GName). ‵ (fobs δ ((coded_list u64.coded).code xs)) ⊛ ‵ (fbor κ (Borrowed (Arr (mem u64) (length xs)) b o δ)) ⊛ ‵
      (flft κ q) ⊛ ‵ (follows (Array u64 0) (Array u64 0) γ δ (put_chunk 0 xs)))))
      (takes_part 𝓛 (Arr (mem u64) (length xs)) (Arr (mem u64) (length xs)) (put_chunk 0 xs) κ q b o b o γ (emp 𝓤) back ((coded_list u64.coded).code xs)
      ((coded_list u64.coded).code xs) xs) $ await ! tt $ pick ! (λ δ. split3 ! $
      use2 𝓛 (‵ ((MutSlice (named 0) κ u64).own_val (self δ) (slice_val (b, o) (length xs) ∷ []))) (slice_of 𝓛 u64 (named 0) κ b o δ xs rm) $ now ! $ show !
      Lent δ $ done !)

pub slot_within_spec : {M : Type 1} → statement M
slot_within_spec 𝓤 𝓛 𝓜 𝓡 wired =
    let c = f.clauses 𝓛 𝓜.mem 𝓡.returns in
    proved 𝓛 f.ended stayed c 𝓜 𝓡 (
      Goes-spent_ref 𝓛 1 (0 ∷ []) tt (plain (λ _. the_row)),
      (
        Goes-dropped 𝓛 1 (plain (λ _. u8)) yes (λ κs x w. refl),
        (Goes-dropped 𝓛 1 (plain (λ _. u32)) yes (λ κs x w. refl), tt),
      ),
    )
    f.Key.name code.function (code.unfolded 𝓤 𝓛.H 𝓜 𝓡 wired)
    (λ κs. (mut_vals, (uint_vals w8, (uint_vals w32, tt)))) (λ κs. (mut_Tells (named 0) κs.0 the_row, (uint_Tells w8, (uint_Tells w32, tt))))
    (λ κs qs bounds a n are.
    let κ = κs.0 in let q = qs.0 in let page = a.0 in let pool = a.1.0 in let s = a.1.1.0 in
    let G = triple_of 𝓛 g.signature (g.spec 𝓛 𝓜.mem 𝓡.returns) in
    let z : G.Ghost = ((κs, qs, bounds, a, (mut_vals page, (uint_vals w8 pool, (uint_vals w32 s, tt)))), tt) in
    qed 𝓛 (raw (G.pre z) ∷ []) ∵ enter ! _ _ _ _ _ $
    alloc_all ! (λ l. pass_all ! refl ((tt, tt), ((tt, record { fits = are.1.0.1 }), ((tt, record { fits = are.1.1.0.1 }), tt))) $
    sets ! (addr ! (through ! refl (stop !))) refl (tt, tt) $
    calls_at ! (framed 𝓤 𝓛.H 𝓜 (tables 𝓤 𝓛.H 𝓜 𝓡 𝓡.env)) G (met 𝓤 𝓛 𝓜 𝓡 (code.calls-space_pages::page::SlotPage::slot_mut 𝓡.env wired)) z
    (and_then ! (get ! refl) (and_then ! (get ! refl) (and_then ! (get ! refl) (no_more !)))) (λ v.
    use1 𝓛 (later (some (λ (r : MutBor (List ℕ)). ((‵ (flft κ q) ⊛ ‵ ftrue) ⊛ ‵ ((MutSlice (named 0) κ u64).own_val r (v ∷ []))) ⊛
    some (λ (ws : Unit {0} × (Unit {0} × (Unit {0} × Unit {0}))).
    ‵ (lasts g.ended κs a ws) ⊛ (‵ (follows the_row (Array u64 0) page.ghost_name r.ghost_name (with_slot page.now pool s)) ⊛
    (raw (fact 𝓤 (r.now ≡ slot_words page.now pool s)) ⊛ raw (fact 𝓤 (length r.now ≡ words_of pool)))))))) (id⊢ 𝓤 _) $
    await ! tt $ pick ! (λ r. split ! $ split ! $ split ! $ move ! (3 ∷ []) $ pick !
    (λ ws. split ! $ drop ! $ split ! $ move ! (1 ∷ []) $ split ! $ heard ! _ (λ is. heard ! _ (λ long.
    -- [what the page follows; the token; nothing; the slice]
    move ! (3 ∷ []) $ peeks ! (MutSlice (named 0) κ u64) (Is (MutSlice (named 0) κ u64)) (shows 𝓛 (MutSlice (named 0) κ u64)) r (v ∷ []) (λ at.
    lands_as ! (ap only at.0.0) refl (tt, (tt, (record { fits = at.0.1.0 }, tt))) $
    move ! (0 ∷ 2 ∷ []) $ use2 𝓛 (later (some (λ (δ : GName).
    ‵ ((MutSlice (named 0) κ u64).own_val (record r { ghost_name = δ }) (slice_val r.ref_ptr (length r.now) ∷ [])) ⊛ ‵ (flft κ q) ⊛ ‵
    (follows (Array u64 0) (Array u64 0) r.ghost_name δ (put_chunk 0 r.now)))))
    (lends 𝓛 κ q r.ref_ptr.0 r.ref_ptr.1 r.ghost_name r.now at.0.1 (v ∷ [])) $ await ! tt $ pick ! (λ δ. split3 ! $
    -- [the slice; the token; the slice's name follows the new one; what the page follows; nothing]
    move ! (3 ∷ 2 ∷ []) $ use2 𝓛 (‵ (follows the_row (Array u64 0) page.ghost_name δ (λ w. with_slot page.now pool s (put_chunk 0 r.now w))))
    (follows_then 𝓛 the_row (Array u64 0) (Array u64 0) (with_slot page.now pool s) (put_chunk 0 r.now) page.ghost_name r.ghost_name δ) $
    rewrite ! 0 (λ (l : List ℕ). ‵ (follows the_row (Array u64 0) page.ghost_name δ (λ w. with_slot page.now pool s (put_chunk 0 l w)))) is refl $
    returns ! (look_at ! 0 refl) $ free_all ! refl $ keep ! (1 ∷ 2 ∷ 0 ∷ []) $
    suffices ! _ (ends_at 𝓛 f.ended stayed c z (slice_val r.ref_ptr (length r.now)) (record r { ghost_name = δ }) (tt, (tt, (tt, tt))) (tt, (tt, (tt, tt)))) $
    nothing ! $ nothing ! $ fjoin ! $ nothing ! $ fjoin ! $ nothing ! $ fjoin ! $ join ! $ nothing ! $ move ! (2 ∷ 0 ∷ []) $ join ! $ join ! $ frame ! $
    frame ! $ says ! long $ by ! (fact_i 𝓤 _ (emp 𝓤) is))))))))))
