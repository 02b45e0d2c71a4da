-- The words of the line of `peek`, one more at a time.
use Rattle.std.proofs.Common.{◌≡◌, ℕ, ◌+◌, ◌<◌, List, [], ◌∷◌, ◌++◌, codes, length, take, get_or, sym, ap, ◌∙◌, append_assoc}
use Rattle.std.proofs.lemmas.List.{append-nil, take_more}
use Rattle.space_model.specs.Spelling.{text_of_pieces, hex}
use Rattle.space_model.specs.Texts.{stored_pieces}

stored_push : (words : List ℕ) (word : ℕ) →
    text_of_pieces (stored_pieces (words ++ word ∷ [])) ≡ text_of_pieces (stored_pieces words) ++ (codes " " ++ hex word)
stored_push [] word = ap (λ text. 32 ∷ text) (append-nil (hex word))
stored_push (first ∷ words) word =
    ap (λ text. 32 ∷ (hex first ++ text)) (stored_push words word)
    ∙ ap (λ text. 32 ∷ text) (sym (append_assoc (hex first) (text_of_pieces (stored_pieces words)) (codes " " ++ hex word)))

-- a line that ends with the words so far, with a space and the next word behind them
pub stored_more : (words : List ℕ) (i : ℕ) (start before spaced now : List ℕ) → i < length words →
    before ≡ start ++ text_of_pieces (stored_pieces (take i words)) → spaced ≡ before ++ codes " " → now ≡ spaced ++ hex (get_or words i 0) →
    now ≡ start ++ text_of_pieces (stored_pieces (take (i + 1) words))
stored_more words i start before spaced now on first space put =
    put
    ∙ ap (λ text. text ++ hex (get_or words i 0)) (space ∙ ap (λ text. text ++ codes " ") first)
    ∙ append_assoc (start ++ text_of_pieces (stored_pieces (take i words))) (codes " ") (hex (get_or words i 0))
    ∙ append_assoc start (text_of_pieces (stored_pieces (take i words))) (codes " " ++ hex (get_or words i 0))
    ∙ ap (λ text. start ++ text)
    (sym (stored_push (take i words) (get_or words i 0)) ∙ ap (λ words. text_of_pieces (stored_pieces words)) (sym (take_more words i 0 on)))
