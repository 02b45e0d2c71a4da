-- The last address with a property, below an address.
use Rattle.std.specs.Prelude.{◌≡◌, ℕ, ◌<◌, Bool, true, false}
use Rattle.space_model.specs.Layout.{page_of}

-- nothing below this passes the test
abbrev pub HasNoneBelow : (ℕ → Bool) → ℕ → Type 0
HasNoneBelow test below = (k : ℕ) → k < below → test k ≡ false

-- the last one below this that passes the test
pub record IsLast (test : ℕ → Bool) (below k : ℕ) : Type 0 where
  pub under : k < below
  pub is : test k ≡ true
  pub after : (j : ℕ) → k < j → j < below → test j ≡ false

-- no address on the page below this one passes the test
abbrev pub HasNoneOnBelow : (ℕ → Bool) → ℕ → ℕ → Type 0
HasNoneOnBelow test page below = (a : ℕ) → page_of a ≡ page → a < below → test a ≡ false

-- the highest address on the page below this one that passes the test
pub record IsLastOn (test : ℕ → Bool) (page below a : ℕ) : Type 0 where
  pub on : page_of a ≡ page
  pub under : a < below
  pub is : test a ≡ true
  pub after : (b : ℕ) → page_of b ≡ page → a < b → b < below → test b ≡ false
