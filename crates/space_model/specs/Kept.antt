-- The unprotected names that are kept for certain: a minor marking starts with them marked, until a full verdict says anew which they are.
-- That the unprotected children of old objects are kept is CRuby's (3.3, `gc_remember_unprotected`).
use Rattle.std.specs.Prelude.{ℕ, not, ◌&&◌, List, ◌∷◌, nat_eq, nat_le, is_some, if◌then◌else◌}
use Rattle.std.specs.List.{filter, list_any}
use Rattle.std.specs.Ordering.{nat_cmp}
use Rattle.std.specs.Set.{is_member}
use Rattle.std.specs.FinMap.{FinMap, get, keys}
use Rattle.space_model.specs.declared.event.Kind.{Kind}
use Rattle.space_model.specs.declared.event.Kind.TheVariants.{Minor, Major, Full}
use Rattle.space_model.specs.Ages.{is_protected, is_old_in, outlived_by}
use Rattle.space_model.specs.Graph.{Item, children}
use Rattle.space_model.specs.Moments.{with_names}

-- the present unprotected names that are children of old names
unfoldable pub unprotected_children : List Item → FinMap nat_cmp ℕ → List ℕ → List ℕ
unprotected_children graph place outlived =
    filter (λ name. not (is_protected graph name)
    && list_any (λ parent. is_old_in graph place outlived parent && is_member nat_eq (children graph parent) name) (keys place)) (keys place)

-- the names that are present
abbrev pub present_of : FinMap nat_cmp ℕ → List ℕ → List ℕ
present_of place names = filter (λ name. is_some (get place name)) names

-- the kept names after a verdict, by its kind: a full one begins anew, a minor one adds to them. The map has the names that it left, and
-- the numbers are those after it
abbrev pub kept_after_verdict : Kind → List Item → FinMap nat_cmp ℕ → List ℕ → List ℕ → List ℕ
kept_after_verdict Minor graph place outlived kept = with_names (unprotected_children graph place outlived) (present_of place kept)
kept_after_verdict Major graph place outlived kept = present_of place kept
kept_after_verdict Full graph place outlived kept = unprotected_children graph place outlived

-- whether names may be kept that aren't in the list, after a verdict, by its kind: never after a full one
abbrev pub vague_after_verdict : Kind → ℕ → ℕ
vague_after_verdict Full vague = 0
vague_after_verdict _ vague = vague

-- the kept names after the write barrier protects one no more: it is kept where it was protected and outlived two verdicts
abbrev pub kept_with_unprotected : List Item → List ℕ → ℕ → List ℕ → List ℕ
kept_with_unprotected graph outlived name kept =
    if is_protected graph name && nat_le 2 (outlived_by outlived name) then name ∷ kept else kept
