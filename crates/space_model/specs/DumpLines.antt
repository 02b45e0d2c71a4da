-- What a line of a dump tells. The keys are this project's own, after those of CRuby's ObjectSpace.dump_all.
use Rattle.std.specs.Prelude.{ℕ, Bool, List}
use Rattle.space_model.specs.declared.object.Style.{Style}

-- an object: where it stands, the number of its fields, whether it is old, its style, whether the write barrier protects it, its name, the
-- addresses of the objects that its fields hold, field by field, and the bytes of its slot
pub record DumpLine : Type 0 where
  pub address : ℕ
  pub fields : ℕ
  pub old : Bool
  pub style : Style
  pub wb_protected : Bool
  pub name : ℕ
  pub references : List ℕ
  pub slot_size : ℕ
