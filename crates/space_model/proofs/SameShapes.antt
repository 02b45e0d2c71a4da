-- What rests on how many fields the items have stays in another graph, in which they have as many.
use Rattle.std.proofs.Common.{◌≡◌, ℕ, ◌<◌, List, length, refl, ap, arith, Option}
use Rattle.std.specs.Ordering.{nat_cmp}
use Rattle.std.specs.FinMap.{FinMap}
use Rattle.space_model.specs.Graph.{Item, item_of}
use Rattle.space_model.specs.Layout.{pool_for}
use Rattle.space_model.specs.Sound.{AreSlots, SoundLayout, SoundCorpses, SoundLeft}
use Rattle.space_model.proofs.SlotLaws.{AreSlots-same}

module _ (graph graph' : List Item) (long : length graph' ≡ length graph)
    (shape : (q : ℕ) → 0 < q → length (item_of graph' q).values ≡ length (item_of graph q).values) where
  slots_shaped : (pages : List (Option ℕ)) (map : FinMap nat_cmp ℕ) → AreSlots graph pages map → AreSlots graph' pages map
  slots_shaped pages map h =
      AreSlots-same graph graph' pages pages map (let e = long in omega arith) (λ n a _. ap pool_for (shape n a)) (λ n a _. refl) h

  pub SoundLayout-shaped : (place : FinMap nat_cmp ℕ) (pages : List (Option ℕ)) (limit : ℕ) → SoundLayout graph place pages limit →
      SoundLayout graph' place pages limit
  SoundLayout-shaped place pages limit h = record { placed = slots_shaped pages place h.placed; limited = h.limited }

  pub SoundCorpses-shaped : (place corpses : FinMap nat_cmp ℕ) (pages : List (Option ℕ)) (unswept : List ℕ) →
      SoundCorpses graph place corpses pages unswept → SoundCorpses graph' place corpses pages unswept
  SoundCorpses-shaped place corpses pages unswept h = record {
    slots = slots_shaped pages corpses h.slots;
    gone = h.gone;
    apart = h.apart;
    on_unswept = h.on_unswept;
  }

  pub SoundLeft-shaped : (place corpses left : FinMap nat_cmp ℕ) (pages : List (Option ℕ)) → SoundLeft graph place corpses left pages →
      SoundLeft graph' place corpses left pages
  SoundLeft-shaped place corpses left pages h = record {
    slots = slots_shaped pages left h.slots;
    present = h.present;
    apart = h.apart;
    apart_corpses = h.apart_corpses;
  }
