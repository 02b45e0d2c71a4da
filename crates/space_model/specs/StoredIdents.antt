-- How an ident is stored: its text, and then zeros.
use Rattle.std.specs.Prelude.{◌≡◌, ℕ, ◌-◌, ◌≤◌, List, ◌++◌, length, take, replicate}
use Rattle.std.proofs.Common.{sym, ◌∙◌, arith}
use Rattle.std.proofs.lemmas.List.{length-take}
use Rattle.space_model.specs.declared.ident.Ident.TheInside.{Inside}
use Rattle.space_model.specs.Idents.{IsIdent}

-- the text, and then zeros
pub record IsStored (bytes : List ℕ) (len : ℕ) : Type 0 where
  pub size : length bytes ≡ 32
  pub within : len ≤ 32
  pub zeros : bytes ≡ take len bytes ++ replicate (32 - len) 0
  pub ident : IsIdent (take len bytes)

-- the text gives the fields back: the type cites this proof in its declaration
pub stored_back : (a : Inside) → IsStored a.bytes a.len →
    ◌≡◌ {A = Inside} (record { bytes = take a.len a.bytes ++ replicate (32 - length (take a.len a.bytes)) 0; len = length (take a.len a.bytes) }) a
stored_back a h =
    let long : length (take a.len a.bytes) ≡ a.len = length-take a.len a.bytes ∙ omega (arith, h.size, h.within) in
    let back : take a.len a.bytes ++ replicate (32 - length (take a.len a.bytes)) 0 ≡ a.bytes = rw long (sym h.zeros) in
    λ i. record { bytes = back i; len = long i }
