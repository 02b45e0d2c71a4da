-- A name in its array.
use Rattle.std.proofs.Common.{◌≡◌, ℕ, ◌-◌, List, ◌++◌, length, length-append, take, drop, replicate, ap, sym, subst, arith, refl}
use Rattle.std.proofs.lemmas.List.{drop-replicate, length-replicate}
use Rattle.std.proofs.Math.Seq.{take-append_seam}
use Rattle.space_model.specs.Idents.{IsIdent}
use Rattle.space_model.specs.StoredIdents.{IsStored}

stored_exact : (text zeros : List ℕ) → zeros ≡ replicate (32 - length text) 0 → IsIdent text → IsStored (text ++ zeros) (length text)
stored_exact text zeros e ident =
    let front : take (length text) (text ++ zeros) ≡ text = take-append_seam text zeros in
    record {
      size = omega (arith, length-append text zeros, ap length e, length-replicate {A = ℕ} (32 - length text) 0, ident.short);
      within = ident.short;
      zeros = rw (front, e) refl;
      ident = rw front ident;
    }

pub stored : (text copied : List ℕ) → copied ≡ text → IsIdent text → IsStored (copied ++ drop (length text) (replicate 32 0)) (length text)
stored text copied e ident =
    let P : List ℕ → Type 0 = λ a. IsStored (a ++ drop (length text) (replicate 32 0)) (length text) in
    subst P (sym e) (stored_exact text _ (drop-replicate (length text) 32 0) ident)
