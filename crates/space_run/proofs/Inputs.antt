-- What a replay does with a whole input, by its first bad line, if it has one.
use Rattle.std.proofs.Common.{◌≡◌, ◌≤◌, ◌<◌, ◌^◌, ℕ, List, [], ◌∷◌, ◌++◌, Option, Some, None, refl, ap, ◌∙◌, sym, subst, Bool, IsTrue, length}
use Rattle.std.proofs.Common.{length-append, arith, inl, inr, ⊎_elim}
use mathlib.Core.List.{append_assoc}
use Rattle.std.proofs.lemmas.List.{append-nil}
use Rattle.std.specs.Io.KnownBytes.{Consumes}
use Rattle.space_io.proofs.Cuts.{whole_line_is_next}
use Rattle.space_model.specs.declared.command.Command.{Command}
use Rattle.space_model.specs.Grammar.{AreCommands}
use Rattle.space_model.specs.Lines.{lines_of, HasNoLf}
use Rattle.space_run.specs.Ends.{status_of, EndsAs}
use Rattle.space_run.specs.declared.end.End.{End}
use Rattle.space_run.specs.declared.end.End.TheVariants.{Complete, Malformed, ReadFault, WriteFault, InputLimit}
use Rattle.space_run.specs.Replays.{Replays, StartsBad, StopsAtLine, HasReachedLimit, IsBad, IsWholeInput, IsBadInput, TellsMalformed}
use Rattle.std.specs.List.{onto_first}

-- the next line is bad
record HasBadNext (bytes : List ℕ) (lines : List (List ℕ)) : Type 0 where
  line : List ℕ
  others : List (List ℕ)
  cut : lines_of bytes ≡ lines ++ line ∷ others
  bad : IsBad line

-- a line that begins with so many bytes has at least as many
record BeginsLong (bytes : List ℕ) (count : ℕ) : Type 0 where
  line : List ℕ
  others : List (List ℕ)
  cut : lines_of bytes ≡ line ∷ others
  long : count ≤ length line

onto_long : (b : ℕ) (ls : List (List ℕ)) → (line : List ℕ) × (others : List (List ℕ)) × (onto_first b ls ≡ line ∷ others) × (1 ≤ length line)
onto_long b [] = (b ∷ [], [], refl, omega arith)
onto_long b (l ∷ ls) = (b ∷ l, ls, refl, omega arith)

begins_long : (b : ℕ) (begun rest : List ℕ) → HasNoLf (b ∷ begun) → BeginsLong (b ∷ begun ++ rest) (length (b ∷ begun))
begins_long b [] rest h =
    let o = onto_long b (lines_of rest) in
    record { line = o.0; others = o.1; cut = rw h.0 o.2; long = o.3 }
begins_long b (c ∷ begun) rest h =
    let later = begins_long c begun rest h.1 in
    let long = later.long in
    record {
      line = b ∷ later.line;
      others = later.others;
      cut = rw (h.0, later.cut) refl;
      long = omega arith;
    }

starts_long : (begun rest : List ℕ) → HasNoLf begun → 0 < length begun → BeginsLong (begun ++ rest) (length begun)
starts_long [] rest h some = absurd (omega arith)
starts_long (b ∷ begun) rest h some = begins_long b begun rest h

-- what starts badly has a bad line first, whatever comes
bad_first : (ended : Bool) (bytes more : List ℕ) → (IsTrue ended → more ≡ []) → StartsBad ended bytes → HasBadNext (bytes ++ more) []
bad_first ended bytes more none bad = ⊎_elim
    (λ malformed. record {
      line = malformed.line;
      others = lines_of (malformed.rest ++ more);
      cut = whole_line_is_next ended bytes malformed.line malformed.rest malformed.whole more none;
      bad = inl malformed.malformed;
    })
    (λ long.
    let whole : bytes ++ more ≡ long.front ++ (long.rest ++ more) = rw long.whole (append_assoc long.front long.rest more) in
    let limit = long.long in
    let begins = starts_long long.front (long.rest ++ more) long.no_lf (omega arith) in
    let reaches = begins.long in
    record { line = begins.line; others = begins.others; cut = ap lines_of whole ∙ begins.cut; bad = inr (omega arith) })
    bad

-- what is left of a whole input
record IsRest (rest_before rest_after : Option (List ℕ)) (bytes taken : List ℕ) : Type 0 where
  more : List ℕ
  whole : bytes ≡ taken ++ more
  left : rest_after ≡ Some more

rest_of : (r0 r : Option (List ℕ)) (bytes taken : List ℕ) → r0 ≡ Some bytes → Consumes r0 r taken → IsRest r0 r bytes taken
rest_of None r bytes taken e c = absurd (let f : None ≡ Some bytes = e in cc)
rest_of (Some xs) None bytes taken e c = absurd c
rest_of (Some xs) (Some ys) bytes taken e c = let same : xs ≡ bytes = cc in record { more = ys; whole = same_whole same; left = refl }
  where
    same_whole : xs ≡ bytes → bytes ≡ taken ++ ys
    same_whole same = sym same ∙ c

-- lines that are commands have no bad one among them
AreCommands-bad : (lines others : List (List ℕ)) (bad : List ℕ) (commands : List Command) → IsBad bad → AreCommands (lines ++ bad ∷ others) commands → ⊥
AreCommands-bad [] others bad commands is_bad (found, rest, short, reading, e, more) =
    ⊎_elim (λ malformed. malformed found reading) (λ long. omega arith) is_bad
AreCommands-bad (line ∷ lines) others bad commands is_bad (found, rest, short, reading, e, more) = AreCommands-bad lines others bad rest is_bad more

-- so the lines before the first bad one are determined
first_bad : (lines others lines2 others2 : List (List ℕ)) (bad bad2 : List ℕ) (commands commands2 : List Command) →
    lines ++ bad ∷ others ≡ lines2 ++ bad2 ∷ others2 → AreCommands lines commands → AreCommands lines2 commands2 → IsBad bad → IsBad bad2 → lines ≡ lines2
first_bad [] others [] others2 bad bad2 commands commands2 e read read2 is_bad is_bad2 = refl
first_bad [] others (l ∷ lines2) others2 bad bad2 commands commands2 e read (found, rest, short, reading, f, more) is_bad is_bad2 =
    let same : bad ≡ l = cc in
    absurd (⊎_elim (λ malformed. (rw same at malformed) found reading) (λ long. let here = rw same at long in omega arith) is_bad)
first_bad (l ∷ lines) others [] others2 bad bad2 commands commands2 e (found, rest, short, reading, f, more) read2 is_bad is_bad2 =
    let same : bad2 ≡ l = cc in
    absurd (⊎_elim (λ malformed. (rw same at malformed) found reading) (λ long. let here = rw same at long in omega arith) is_bad2)
first_bad (l ∷ lines) others (l2 ∷ lines2) others2 bad bad2 commands commands2 e (found, rest, short, reading, f, more)
    (found2, rest2, short2, reading2, f2, more2) is_bad is_bad2 =
    let same : l ≡ l2 = cc in
    let later : lines ++ bad ∷ others ≡ lines2 ++ bad2 ∷ others2 = cc in
    let rest_same = first_bad lines others lines2 others2 bad bad2 rest rest2 later more more2 is_bad is_bad2 in cc

-- a stop at a line, in the words of the whole input
stop_in : (limit : ℕ) (r0 r w0 w : Option (List ℕ)) (m n : ℕ) (bytes : List ℕ) → r0 ≡ Some bytes → (stop : StopsAtLine limit r0 r m n w0 w) →
    HasBadNext bytes stop.lines
stop_in limit r0 r w0 w m n bytes e stop =
    let rest = rest_of r0 r bytes stop.bytes e stop.taken in
    let none : IsTrue stop.ended → rest.more ≡ [] = λ told. rw rest.left at (stop.at_end told) in
    let bad = bad_first stop.ended stop.next rest.more none stop.bad in
    record {
      line = bad.line;
      others = bad.others;
      cut = ap lines_of rest.whole ∙ stop.first rest.more none ∙ ap (λ xs. stop.lines ++ xs) bad.cut;
      bad = bad.bad;
    }

-- a whole lawful input has no bad line
no_stop : (limit : ℕ) (r0 r w0 w : Option (List ℕ)) (m n : ℕ) → IsWholeInput r0 → StopsAtLine limit r0 r m n w0 w → ⊥
no_stop limit r0 r w0 w m n input stop =
    let bad = stop_in limit r0 r w0 w m n input.bytes input.told stop in
    AreCommands-bad stop.lines bad.others bad.line input.commands bad.bad (rw bad.cut at input.read)

-- an input that is shorter than what may be taken never reaches the limit
no_limit : (limit : ℕ) (r0 r w0 w : Option (List ℕ)) (bytes : List ℕ) → r0 ≡ Some bytes → length bytes < 2 ^ 32 → HasReachedLimit limit r0 r w0 w → ⊥
no_limit limit r0 r w0 w bytes e few reached =
    let rest = rest_of r0 r bytes reached.bytes e reached.cut_off.taken in
    omega (arith, few, reached.many, ap length rest.whole, length-append reached.bytes rest.more)

-- an input with a bad line isn't answered to its end
no_replay : (limit : ℕ) (r0 r w0 w : Option (List ℕ)) (lines : List (List ℕ)) → IsBadInput r0 lines → Replays limit r0 r w0 w → ⊥
no_replay limit r0 r w0 w lines input done =
    let rest = rest_of r0 r input.bytes done.bytes input.told done.taken in
    let none : rest.more ≡ [] = rw rest.left at done.at_end in
    let all : input.bytes ≡ done.bytes = rest.whole ∙ (rw none (append-nil done.bytes)) in
    AreCommands-bad lines input.others input.line done.answered.commands input.bad (rw (← all, input.cut) at done.answered.read)

-- and the stop is at its first bad line
stops_there : (limit : ℕ) (r0 r w0 w : Option (List ℕ)) (m n : ℕ) (lines : List (List ℕ)) → IsBadInput r0 lines → StopsAtLine limit r0 r m n w0 w →
    TellsMalformed limit lines w0 w
stops_there limit r0 r w0 w m n lines input stop =
    let bad = stop_in limit r0 r w0 w m n input.bytes input.told stop in
    let same = first_bad stop.lines bad.others lines input.others bad.line input.line stop.tells.answered.commands input.commands (sym bad.cut ∙ input.cut)
    stop.tells.answered.read input.read bad.bad input.bad in
    subst (λ ls. TellsMalformed limit ls w0 w) same stop.tells

-- a whole lawful input without faults is replayed to its end
pub completes : (limit : ℕ) (r0 r w0 w : Option (List ℕ)) (m n : ℕ) (end : End) → IsWholeInput r0 → (end ≡ ReadFault → ⊥) → (end ≡ WriteFault → ⊥) →
    EndsAs limit r0 r m n w0 w end → status_of end ≡ 0
completes limit r0 r w0 w m n Complete input four five h = refl
completes limit r0 r w0 w m n Malformed input four five h = absurd (no_stop limit r0 r w0 w m n input h)
completes limit r0 r w0 w m n ReadFault input four five h = absurd (four refl)
completes limit r0 r w0 w m n WriteFault input four five h = absurd (five refl)
completes limit r0 r w0 w m n InputLimit input four five h = absurd (no_limit limit r0 r w0 w input.bytes input.told input.few h.0)

-- and one with a bad line up to that line
pub stops : (limit : ℕ) (r0 r w0 w : Option (List ℕ)) (m n : ℕ) (end : End) (lines : List (List ℕ)) → IsBadInput r0 lines → (end ≡ ReadFault → ⊥) →
    (end ≡ WriteFault → ⊥) → EndsAs limit r0 r m n w0 w end → (status_of end ≡ 3) × TellsMalformed limit lines w0 w
stops limit r0 r w0 w m n Complete lines input four five h = absurd (no_replay limit r0 r w0 w lines input h.0)
stops limit r0 r w0 w m n Malformed lines input four five h = (refl, stops_there limit r0 r w0 w m n lines input h)
stops limit r0 r w0 w m n ReadFault lines input four five h = absurd (four refl)
stops limit r0 r w0 w m n WriteFault lines input four five h = absurd (five refl)
stops limit r0 r w0 w m n InputLimit lines input four five h = absurd (no_limit limit r0 r w0 w input.bytes input.told input.few h.0)
