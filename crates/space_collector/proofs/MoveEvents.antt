-- The events that tell of moves: how many they are, and that their lines can be written.
use Rattle.std.proofs.Common.{◌≡◌, ⊎_elim, ℕ, zero, suc, ◌+◌, ◌^◌, ◌<◌, Bool, true, true≢false, List, [], length, map, sym, ap, ◌∙◌, subst, arith}
use Rattle.std.proofs.lemmas.Bool.{cases_eq}
use Rattle.space_model.specs.declared.event.Event.{Event}
use Rattle.space_model.specs.Outputs.{Told, gone_in, ran_in, moved_in}
use Rattle.space_model.specs.Texts.{AreSpelled}
use Rattle.space_heap.specs.Slots.{ObjectView}
use Rattle.space_heap.specs.HeapView.{HeapView}
use Rattle.space_heap.specs.Objects.{is_object}
use Rattle.space_heap.specs.Relocation.{relocated}
use Rattle.space_heap.proofs.RelocationLaws as laws
use Rattle.space_compact.specs.declared.moving.Moved.{Moved}
use Rattle.space_compact.specs.Moves.{Moves}
use Rattle.space_collector.specs.GoneNames.{name_at}
use Rattle.space_collector.specs.HeapMoves.{MovesTold, IsMoving}
use Rattle.space_collector.proofs.MoveLaws.{moving_object, target_free}

-- each event tells of a move, and each move is told once
pub moves_counted : (count : ℕ) (v : HeapView) (events : List Event) (w : HeapView) → MovesTold count v events w
    → length (moved_in (map Told events)) ≡ count
moves_counted zero v events w h = ap (λ es. length (moved_in (map Told es))) h.0
moves_counted (suc count) v events w h =
    let rest = moves_counted count h.2 h.1 w h.5 in
    let first : length (moved_in (map Told events)) ≡ length (moved_in (map Told h.1)) + 1 = ap (λ es. length (moved_in (map Told es))) h.3 ∙ omega arith in
    omega (arith, rest, first)

-- so there are as many events as moves
pub events_counted : (count : ℕ) (v : HeapView) (events : List Event) (w : HeapView) → MovesTold count v events w → length events ≡ count
events_counted zero v events w h = ap (λ (es : List Event). length es) h.0
events_counted (suc count) v events w h =
    let rest = events_counted count h.2 h.1 w h.5 in
    let first : length events ≡ length h.1 + 1 = ap (λ (es : List Event). length es) h.3 ∙ omega arith in
    omega (arith, rest, first)

-- they tell neither of a gone object nor of a finalizer
pub moves_tell_none_gone : (count : ℕ) (v : HeapView) (events : List Event) (w : HeapView) → MovesTold count v events w → gone_in (map Told events) ≡ []
moves_tell_none_gone zero v events w h = ap (λ es. gone_in (map Told es)) h.0
moves_tell_none_gone (suc count) v events w h = ap (λ es. gone_in (map Told es)) h.3 ∙ moves_tell_none_gone count h.2 h.1 w h.5

pub moves_tell_none_ran : (count : ℕ) (v : HeapView) (events : List Event) (w : HeapView) → MovesTold count v events w → ran_in (map Told events) ≡ []
moves_tell_none_ran zero v events w h = ap (λ es. ran_in (map Told es)) h.0
moves_tell_none_ran (suc count) v events w h = ap (λ es. ran_in (map Told es)) h.3 ∙ moves_tell_none_ran count h.2 h.1 w h.5

-- the names of all objects can be written
abbrev pub AreNamesSmall : HeapView → Type 0
AreNamesSmall v = (a : ℕ) → is_object v a ≡ true → name_at v a < 2 ^ 64

module _ (v w : HeapView) (m : Moved) (one : Moves v w m) (small : AreNamesSmall v) where
  moved_small : m.name < 2 ^ 64
  moved_small = let is = one.named in let few = small m.from (moving_object v w m one) in omega (arith, is, few)

  small_after : AreNamesSmall (relocated v m.from m.to)
  small_after a stands =
      let e = moving_object v w m one in
      let free = target_free v w m one in
      ⊎_elim
      (λ same. absurd (true≢false (sym stands ∙ ap (is_object (relocated v m.from m.to)) same
      ∙ laws.is_object-relocated_from v one.pool m.from m.to e free)))
      (λ apart. ⊎_elim
      (λ there.
      let is : name_at (relocated v m.from m.to) a ≡ name_at v m.from = ap (name_at (relocated v m.from m.to)) there
      ∙ ap (λ (o : ObjectView). o.name) (laws.object_of-relocated_to v one.pool m.from m.to e free) in
      let few = small m.from e in
      omega (arith, is, few))
      (λ other.
      let is : name_at (relocated v m.from m.to) a ≡ name_at v a =
      ap (λ (o : ObjectView). o.name) (laws.object_of-relocated_other v one.pool m.from m.to e free a apart other) in
      let few = small a (sym (laws.is_object-relocated_other v one.pool m.from m.to e free a apart other) ∙ stands) in
      omega (arith, is, few))
      (cases_eq a m.to))
      (cases_eq a m.from)

  small_still : AreNamesSmall w
  small_still = subst AreNamesSmall (sym one.becomes) small_after

-- the lines of moves can be written, where the names are small
pub moves_spelled : (count : ℕ) (v : HeapView) (events : List Event) (w : HeapView) → MovesTold count v events w → AreNamesSmall v
    → AreSpelled (map Told events)
moves_spelled zero v events w h small = subst (λ es. AreSpelled (map Told es)) (sym h.0) tt
moves_spelled (suc count) v events w h small = subst (λ es. AreSpelled (map Told es)) (sym h.3)
    ((moved_small v h.2 h.0 h.4 small, tt), moves_spelled count h.2 h.1 w h.5 (small_still v h.2 h.0 h.4 small))

-- and so can those of a command, by the names that stood before it
pub moving_spelled : (old new : HeapView) (stack : List ℕ) (count moves : ℕ) (done : Bool) (events : List Event)
    → IsMoving old new stack count moves done events → AreNamesSmall old → AreSpelled (map Told events)
moving_spelled old new stack count moves done events m small = moves_spelled moves m.pinned events new m.makes (λ a stands.
    let is : name_at m.pinned a ≡ name_at old a = ap (λ (o : ObjectView). o.name) (m.pins.same.objects a) in
    let few = small a (sym (m.pins.same.present a) ∙ stands) in
    omega (arith, is, few))
