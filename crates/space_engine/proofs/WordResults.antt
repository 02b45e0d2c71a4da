-- Words that were found, or the refusal in their place: a refusal of a word is one of its value.
use Rattle.std.proofs.Common.{◌≡◌, ℕ, sym, ap, ◌∙◌, Result, Ok, Err}
use Rattle.std.specs.Ordering.{nat_cmp}
use Rattle.std.specs.FinMap.{FinMap}
use Rattle.space_model.specs.declared.reply.Refusal.{Refusal}
use Rattle.space_model.specs.declared.value.Value.{Value}
use Rattle.space_model.specs.Refusals.{both}
use Rattle.space_engine.specs.Words.{word_result, written_words, named_address}

-- both words, by what they are
pub same_both : (a b x y : Result ℕ Refusal) → a ≡ x → b ≡ y → both a b ≡ both x y
same_both a b x y e f = ap (λ a. both a b) e ∙ ap (both x) f

module _ (place : FinMap nat_cmp ℕ) where
  pub refused_value : (found : Result Value Refusal) (why : Refusal) → Err why ≡ word_result place found → found ≡ Err why
  refused_value (Ok value) why e = absurd (cc)
  refused_value (Err other) why e = sym (let f : ◌≡◌ {A = Result Value Refusal} (Err why) (Err other) = cc in f)

  pub refused_write : (found : Result (ℕ × Value) Refusal) (why : Refusal) → Err why ≡ written_words place found → found ≡ Err why
  refused_write (Ok written) why e = absurd (cc)
  refused_write (Err other) why e = sym (let f : ◌≡◌ {A = Result (ℕ × Value) Refusal} (Err why) (Err other) = cc in f)

  pub refused_name : (found : Result ℕ Refusal) (why : Refusal) → Err why ≡ named_address place found → found ≡ Err why
  refused_name (Ok name) why e = absurd (cc)
  refused_name (Err other) why e = sym (let f : ◌≡◌ {A = Result ℕ Refusal} (Err why) (Err other) = cc in f)

  -- of two names the refusal is the one of their addresses
  pub refused_both : (x y : Result ℕ Refusal) (why : Refusal) → Err why ≡ both (named_address place x) (named_address place y) → both x y ≡ Err why
  refused_both (Ok m) (Ok n) why e = absurd (cc)
  refused_both (Ok m) (Err other) why e = sym e
  refused_both (Err other) (Ok n) why e = sym e
  refused_both (Err one) (Err other) why e = sym e
