-- The lines of a verdict, as they are written one after another.
use Rattle.std.proofs.Common.{◌≡◌, ℕ, suc, ◌+◌, ◌^◌, ◌<◌, true, nat_eq, List, [], ◌∷◌, ◌++◌, length, map, take, refl, sym, ap, ◌∙◌, subst, arith, append-nil, append_assoc, Option}
use Rattle.std.specs.Prelude.{Result, Ok, Err, OnOk, OnErr}
use Rattle.std.specs.Io.KnownBytes.{Appends}
use Rattle.std.proofs.KnownBytes.{Appends-nil, Appends-trans}
use Rattle.std.specs.Set.{is_member}
use Rattle.std.proofs.lemmas.Bool.{or_left, or_right, eq-eqb}
use Rattle.std.proofs.lemmas.List.{map-append, take-append-le, length-append}
use Rattle.std.proofs.lemmas.List.Concat.{flat_map-append}
use Rattle.space_io.specs.Sinks.{AppendsPrefix}
use Rattle.space_model.specs.declared.event.Event.{Event}
use Rattle.space_model.specs.declared.event.Event.TheVariants.{Gone, Verdict}
use Rattle.space_model.specs.declared.event.Kind.{Kind}
use Rattle.space_model.specs.Outputs.{Output, Told}
use Rattle.space_model.specs.Texts.{event_pieces, output_pieces, line_of_pieces, text_of, AreSpelled}
use Rattle.space_model.specs.Verdicts.{verdict_events}
use Rattle.space_heap.specs.HeapView.{HeapView}
use Rattle.space_heap.specs.Walks.{HasNoGoneFrom, IsNextGone}
use Rattle.space_heap.specs.SoundHeap.{IsSoundHeap}
use Rattle.space_heap.specs.Sweeping.{is_gone}
use Rattle.space_collector.specs.GoneNames.{gone_below, gone_addresses, name_at, gone_names}
use Rattle.space_collector.proofs.GoneLists.{gone_next, gone_all, gone_after, member_gone, gone_few}

abbrev pub event_line : Event → List ℕ
event_line event = line_of_pieces (event_pieces event)

-- the lines of the objects at the addresses
abbrev pub lines_of : HeapView → List ℕ → List ℕ
lines_of v addresses = text_of (map Told (map Gone (map (name_at v) addresses)))

-- the lines of the gone objects below an address
abbrev pub told : HeapView → ℕ → List ℕ
told v from = lines_of v (gone_below v from)

-- the lines of the verdict
abbrev pub verdict_text : Kind → HeapView → List ℕ
verdict_text kind v = text_of (map Told (verdict_events kind (gone_names v)))

pub text_of-append : (xs ys : List Output) → text_of (xs ++ ys) ≡ text_of xs ++ text_of ys
text_of-append xs ys = flat_map-append (λ output. line_of_pieces (output_pieces output)) xs ys

lines_of-append : (v : HeapView) (xs ys : List ℕ) → lines_of v (xs ++ ys) ≡ lines_of v xs ++ lines_of v ys
lines_of-append v xs ys =
    ap (λ zs. text_of (map Told (map Gone zs))) (map-append (name_at v) xs ys)
    ∙ ap (λ zs. text_of (map Told zs)) (map-append Gone (map (name_at v) xs) (map (name_at v) ys))
    ∙ ap text_of (map-append Told (map Gone (map (name_at v) xs)) (map Gone (map (name_at v) ys)))
    ∙ text_of-append (map Told (map Gone (map (name_at v) xs))) (map Told (map Gone (map (name_at v) ys)))

-- the text is that of the gone objects, and then the line of the verdict
verdict_parts : (kind : Kind) (v : HeapView) → verdict_text kind v ≡ lines_of v (gone_addresses v) ++ event_line (Verdict kind (length (gone_names v)))
verdict_parts kind v =
    ap text_of (map-append Told (map Gone (gone_names v)) (Verdict kind (length (gone_names v)) ∷ []))
    ∙ text_of-append (map Told (map Gone (gone_names v))) (Told (Verdict kind (length (gone_names v))) ∷ [])
    ∙ ap (λ xs. lines_of v (gone_addresses v) ++ xs) (append-nil (event_line (Verdict kind (length (gone_names v)))))

-- nothing is told before the first
pub told_none : (v : HeapView) (a : Option (List ℕ)) → Appends a a (told v 0)
unfolding gone_below
told_none v a = Appends-nil a

told_next : (v : HeapView) (from a : ℕ) → IsNextGone v from a → told v (a + 1) ≡ told v from ++ event_line (Gone (name_at v a))
told_next v from a n =
    ap (lines_of v) (gone_next v from a n)
    ∙ lines_of-append v (gone_below v from) (a ∷ [])
    ∙ ap (λ xs. told v from ++ xs) (append-nil (event_line (Gone (name_at v a))))

-- the lines of the objects up to one are a prefix of the text
told_prefix : (kind : Kind) (v : HeapView) (from a : ℕ) → IsNextGone v from a →
    (rest : List ℕ) × (verdict_text kind v ≡ (told v from ++ event_line (Gone (name_at v a))) ++ rest)
told_prefix kind v from a n =
    let after = gone_after v a n.is in
    let last : List ℕ = event_line (Verdict kind (length (gone_names v))) in (
      lines_of v after.0 ++ last,
      verdict_parts kind v
          ∙ ap (λ xs. xs ++ last) (ap (lines_of v) after.1 ∙ lines_of-append v (gone_below v (a + 1)) after.0)
          ∙ append_assoc (told v (a + 1)) (lines_of v after.0) last
          ∙ ap (λ xs. xs ++ (lines_of v after.0 ++ last)) (told_next v from a n),
    )

take_after : (n : ℕ) (xs ys : List ℕ) → take (length xs + n) (xs ++ ys) ≡ xs ++ take n ys
take_after n [] ys = let e : 0 + n ≡ n = omega arith in ap (λ k. take k ys) e
take_after n (x ∷ xs) ys =
    let e : length (x ∷ xs) + n ≡ suc (length xs + n) = omega arith in
    ap (λ k. take k (x ∷ xs ++ ys)) e ∙ ap (λ zs. x ∷ zs) (take_after n xs ys)

-- a prefix of a piece, after a whole one
pub prefix_after : (a b c : Option (List ℕ)) (xs ys : List ℕ) → Appends a b xs → AppendsPrefix b c ys → AppendsPrefix a c (xs ++ ys)
prefix_after a b c xs ys first second = (
  length xs + second.0,
  (let l = length-append xs ys in let m = second.1 in omega arith),
  subst (Appends a c) (sym (take_after second.0 xs ys)) (Appends-trans a b c xs (take second.0 ys) first second.2),
)

-- a prefix of a piece is one of a longer piece
pub prefix_longer : (a b : Option (List ℕ)) (xs ys : List ℕ) → AppendsPrefix a b xs → AppendsPrefix a b (xs ++ ys)
prefix_longer a b xs ys p = (
  p.0,
  (let l = length-append xs ys in let m = p.1 in omega arith),
  subst (Appends a b) (sym (take-append-le p.0 xs ys p.1)) p.2,
)

module _ (v : HeapView) (kind : Kind) (before now after : Option (List ℕ)) (from : ℕ) (so_far : Appends before now (told v from)) where
  pub goes_on : (a name : ℕ) → IsNextGone v from a → name ≡ name_at v a → Appends now after (event_line (Gone name)) → Appends before after (told v (a + 1))
  goes_on a name n is written =
      subst (Appends before after) (sym (told_next v from a n))
      (Appends-trans before now after (told v from) (event_line (Gone (name_at v a))) so_far (subst (λ m. Appends now after (event_line (Gone m))) is written))

  pub stops : {T E : Type 0} (result : Result T E) (a name : ℕ) → IsNextGone v from a → name ≡ name_at v a →
      AppendsPrefix now after (event_line (Gone name)) → OnErr result (AppendsPrefix before after (verdict_text kind v))
  stops (Ok value) a name n is written = tt
  stops (Err fault) a name n is written =
      let prefix = told_prefix kind v from a n in
      subst (AppendsPrefix before after) (sym prefix.1)
      (prefix_longer before after (told v from ++ event_line (Gone (name_at v a))) prefix.0
      (prefix_after before now after (told v from) (event_line (Gone (name_at v a))) so_far
      (subst (λ m. AppendsPrefix now after (event_line (Gone m))) is written)))

  whole : HasNoGoneFrom v from → (count : ℕ) → count ≡ length (gone_names v) → verdict_text kind v ≡ told v from ++ event_line (Verdict kind count)
  whole none count is =
      verdict_parts kind v
      ∙ ap (λ xs. lines_of v xs ++ event_line (Verdict kind (length (gone_names v)))) (sym (gone_all v from none))
      ∙ ap (λ k. told v from ++ event_line (Verdict kind k)) (sym is)

  pub ends : {T E : Type 0} (result : Result T E) → HasNoGoneFrom v from → (count : ℕ) → count ≡ length (gone_names v) →
      OnOk result (Appends now after (event_line (Verdict kind count))) → OnOk result (Appends before after (verdict_text kind v))
  ends (Ok value) none count is written =
      subst (Appends before after) (sym (whole none count is)) (Appends-trans before now after (told v from) (event_line (Verdict kind count)) so_far written)
  ends (Err fault) none count is written = tt

  pub ends_early : {T E : Type 0} (result : Result T E) → HasNoGoneFrom v from → (count : ℕ) → count ≡ length (gone_names v) →
      AppendsPrefix now after (event_line (Verdict kind count)) → OnErr result (AppendsPrefix before after (verdict_text kind v))
  ends_early (Ok value) none count is written = tt
  ends_early (Err fault) none count is written =
      subst (AppendsPrefix before after) (sym (whole none count is))
      (prefix_after before now after (told v from) (event_line (Verdict kind count)) so_far written)

spelled_from : (kind : Kind) (count : ℕ) (name : ℕ → ℕ) (xs : List ℕ) → ((a : ℕ) → is_member nat_eq xs a ≡ true → name a < 2 ^ 64) → count < 2 ^ 64 →
    AreSpelled (map Told (map Gone (map name xs) ++ Verdict kind count ∷ []))
spelled_from kind count name [] small few = ((few, tt), tt)
spelled_from kind count name (x ∷ xs) small few = (
  (small x (or_left (nat_eq x x) _ (eq-eqb x x refl)), tt),
  spelled_from kind count name xs (λ a m. small a (or_right (nat_eq a x) _ m)) few,
)

-- the numbers of the lines can be written, where the names are small
pub verdict_spelled : (v : HeapView) (kind : Kind) → IsSoundHeap v → ((a : ℕ) → is_gone v a ≡ true → name_at v a < 2 ^ 64) →
    AreSpelled (map Told (verdict_events kind (gone_names v)))
verdict_spelled v kind sound small =
    spelled_from kind (length (gone_names v)) (name_at v) (gone_addresses v) (λ a m. small a (sym (member_gone v a) ∙ m))
    (let few = gone_few v sound in omega arith)
