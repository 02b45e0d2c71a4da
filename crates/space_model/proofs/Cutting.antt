-- How the pieces of a line are read back from its bytes.
use Rattle.std.proofs.Common.{◌≡◌, ℕ, zero, suc, ◌<◌, ◌≤◌, ◌^◌, ◌==◌, Bool, true, false, ◌&&◌, nat_le, if◌then◌else◌, List, [], ◌∷◌, ◌++◌, length, map, refl, ap, sym, subst, ◌∙◌, arith, lit≤, IsTrue}
use Rattle.std.proofs.lemmas.Bool.Decides.{nat_tests}
use Rattle.std.proofs.lemmas.List.Elements.{All-head, All-tail}
use Rattle.std.specs.List.{All}
use Rattle.space_model.proofs.LineLemmas.{HasNoLf-append}
use Rattle.std.proofs.lemmas.List.{append-nil}
use Rattle.std.proofs.lemmas.Fmt.{decimal_is_IsNumeral}
use Rattle.std.proofs.lemmas.Str.Parse.{digit_from_value}
use Rattle.std.proofs.lemmas.Int.Digits.{digits_value_is, all_below_base_digits_of, number_digits_of}
use Rattle.std.specs.Char.{digit_value}
use Rattle.std.specs.Fmt.{decimal, digit_glyph}
use Rattle.std.specs.Int.Digits.{digits_of, AllBelowBase}
use Rattle.std.specs.List.{onto_first}
use Rattle.std.specs.Str.Parse.{AllDigits, digits_value}
use Rattle.space_model.specs.Idents.{is_later_byte}
use Rattle.space_model.specs.Lines.{HasNoLf}
use Rattle.space_model.specs.Spelling.{Piece, Say, Number, Hex, Called, text_of_pieces, IsSpelled, hex, hex_digits}

-- a run of letters, digits and `_`, or another byte alone; Bad is none
pub data Token : Type 0 where
  Raw : (text : List ℕ) → Token
  Num : (number : ℕ) → Token
  Hexa : (number : ℕ) → Token
  Bad : Token

abbrev pub token_text : Token → List ℕ
token_text (Raw text) = text
token_text (Num number) = decimal number
token_text (Hexa number) = hex number
token_text Bad = []

-- the runs, and the bytes between them
abbrev pub cut : List ℕ → List (List ℕ)
cut [] = [] ∷ []
cut (b ∷ bs) = if is_later_byte b then onto_first b (cut bs) else [] ∷ (b ∷ []) ∷ cut bs

abbrev pub is_digit : ℕ → Bool
is_digit b = nat_le 48 b && nat_le b 57

abbrev pub read_number : ℕ → List ℕ → Token
read_number b [] = Num (digits_value 10 (b ∷ []))
read_number b (c ∷ w) = if c == 120 then Hexa (digits_value 16 w) else Num (digits_value 10 (b ∷ c ∷ w))

abbrev pub read : List ℕ → Token
read [] = Raw []
read (b ∷ w) = if is_digit b then read_number b w else Raw (b ∷ w)

-- the tokens of pieces
abbrev pub onto_token : ℕ → List Token → List Token
onto_token b (Raw w ∷ ws) = Raw (b ∷ w) ∷ ws
onto_token b ws = Bad ∷ ws

abbrev pub lay : List ℕ → List Token → List Token
lay [] ws = ws
lay (b ∷ t) ws = if is_later_byte b then onto_token b (lay t ws) else Raw [] ∷ Raw (b ∷ []) ∷ lay t ws

abbrev pub fill : Token → List Token → List Token
fill token (Raw [] ∷ ws) = token ∷ ws
fill token ws = Bad ∷ ws

abbrev pub shape : List Piece → List Token
shape [] = Raw [] ∷ []
shape (Say t ∷ ps) = lay t (shape ps)
shape (Number n ∷ ps) = fill (Num n) (shape ps)
shape (Hex n ∷ ps) = fill (Hexa n) (shape ps)
shape (Called l ∷ ps) = fill (Raw l) (shape ps)

abbrev pub is_whole : Token → Bool
is_whole Bad = false
is_whole _ = true

-- no token is Bad
abbrev pub are_whole : List Token → Bool
are_whole [] = true
are_whole (t ∷ ts) = is_whole t && are_whole ts

abbrev pub starts_raw : List ℕ → Bool
starts_raw [] = true
starts_raw (b ∷ w) = if is_digit b then false else true

-- no token that is no number begins with a digit
abbrev pub are_raw : List Token → Bool
are_raw [] = true
are_raw (Raw w ∷ ts) = starts_raw w && are_raw ts
are_raw (_ ∷ ts) = are_raw ts

abbrev pub has_no_lf : List ℕ → Bool
has_no_lf [] = true
has_no_lf (b ∷ bs) = (if b == 10 then false else true) && has_no_lf bs

abbrev pub say_no_lf : List Piece → Bool
say_no_lf [] = true
say_no_lf (Say t ∷ ps) = has_no_lf t && say_no_lf ps
say_no_lf (_ ∷ ps) = say_no_lf ps

both : (a b : Bool) → (a && b) ≡ true → (a ≡ true) × (b ≡ true)
both true b e = (refl, e)
both false b e = absurd (cc)

-- words

abbrev pub IsWord : List ℕ → Type 0
IsWord [] = Unit {0}
IsWord (b ∷ bs) = (is_later_byte b ≡ true) × IsWord bs

word_digit : (b : ℕ) → 48 ≤ b → b ≤ 57 → is_later_byte b ≡ true
word_digit b low high = grind (arith, nat_tests)

IsWord-digits : (t : List ℕ) → AllDigits 10 t → IsWord t
IsWord-digits [] h = tt
IsWord-digits (b ∷ t) h = let r = digit_from_value b h.0 in (word_digit b r.0 r.1, IsWord-digits t h.1)

glyph_word : (d : ℕ) → d < 16 → is_later_byte (digit_glyph false d) ≡ true
glyph_word d h = grind (arith, nat_tests)

glyph_value : (d : ℕ) → d < 16 → digit_value (digit_glyph false d) ≡ d
glyph_value d h = grind (arith, nat_tests)

IsWord-glyphs : (ds : List ℕ) → AllBelowBase 16 ds → IsWord (map (digit_glyph false) ds)
IsWord-glyphs [] h = tt
IsWord-glyphs (d ∷ ds) h = (glyph_word d h.0, IsWord-glyphs ds h.1)

values_back : (ds : List ℕ) → AllBelowBase 16 ds → map digit_value (map (digit_glyph false) ds) ≡ ds
values_back [] h = refl
values_back (d ∷ ds) h = rw (glyph_value d h.0, values_back ds h.1)

not_zero : (n : ℕ) → (suc n == 0) ≡ false
not_zero n = grind (arith, nat_tests)

pub hex-suc : (n : ℕ) → hex (suc n) ≡ 48 ∷ 120 ∷ hex_digits (suc n)
hex-suc n = rw (not_zero n)

pub IsWord-hex : (n : ℕ) → IsWord (hex n)
IsWord-hex zero = (refl, (refl, (refl, tt)))
IsWord-hex (suc n) = subst IsWord (sym (hex-suc n)) (refl, (refl, IsWord-glyphs (digits_of 16 (suc n)) (all_below_base_digits_of 16 (suc n) (lit≤ tt))))

pub hex_digits-value : (n : ℕ) → digits_value 16 (hex_digits n) ≡ n
hex_digits-value n = digits_value_is 16 (hex_digits n)
    ∙ rw (values_back (digits_of 16 n) (all_below_base_digits_of 16 n (lit≤ tt))) (number_digits_of 16 n (lit≤ tt))

read-hex : (n : ℕ) → read (hex n) ≡ Hexa n
read-hex zero = refl
read-hex (suc n) = ap read (hex-suc n) ∙ ap Hexa (hex_digits-value (suc n))

is_digit-yes : (b : ℕ) → 48 ≤ b → b ≤ 57 → is_digit b ≡ true
is_digit-yes b low high = grind (arith, nat_tests)

not_x : (c : ℕ) → c ≤ 57 → (c == 120) ≡ false
not_x c high = grind (arith, nat_tests)

read-digits : (t : List ℕ) → 0 < length t → AllDigits 10 t → read t ≡ Num (digits_value 10 t)
read-digits [] some h = absurd (omega arith)
read-digits (b ∷ []) some h = let r = digit_from_value b h.0 in rw (is_digit-yes b r.0 r.1)
read-digits (b ∷ c ∷ t) some h = let r = digit_from_value b h.0 in let s = digit_from_value c h.1.0 in rw (is_digit-yes b r.0 r.1, not_x c s.1)

read-decimal : (n : ℕ) → n < 2 ^ 64 → read (decimal n) ≡ Num n
read-decimal n h = let k = decimal_is_IsNumeral n h in read-digits (decimal n) k.0.0 k.0.1 ∙ ap Num k.1

-- the cut of a text of pieces

cut-word : (w bs part : List ℕ) (parts : List (List ℕ)) → IsWord w → cut bs ≡ part ∷ parts → cut (w ++ bs) ≡ (w ++ part) ∷ parts
cut-word [] bs part parts h e = e
cut-word (b ∷ w) bs part parts h e = rw (h.0, cut-word w bs part parts h.1 e)

fill-cut : (token : Token) (bs : List ℕ) (ws : List Token) → IsWord (token_text token) → (are_whole ws ≡ true → cut bs ≡ map token_text ws) →
    are_whole (fill token ws) ≡ true → cut (token_text token ++ bs) ≡ map token_text (fill token ws)
fill-cut token bs (Raw [] ∷ ws) h e k =
    cut-word (token_text token) bs [] (map token_text ws) h (e (both (is_whole token) (are_whole ws) k).1)
    ∙ ap (λ w. w ∷ map token_text ws) (append-nil (token_text token))
fill-cut token bs ws h e k = absurd (cc)

lay-step : (b : ℕ) (word : Bool) (cs : List (List ℕ)) (ws : List Token) → (are_whole ws ≡ true → cs ≡ map token_text ws) →
    are_whole (if word then onto_token b ws else Raw [] ∷ Raw (b ∷ []) ∷ ws) ≡ true →
    (if word then onto_first b cs else [] ∷ (b ∷ []) ∷ cs) ≡ map token_text (if word then onto_token b ws else Raw [] ∷ Raw (b ∷ []) ∷ ws)
lay-step b false cs ws e k = ap (λ l. [] ∷ (b ∷ []) ∷ l) (e k)
lay-step b true cs (Raw w ∷ ws) e k = ap (onto_first b) (e k)
lay-step b true cs ws e k = absurd (cc)

lay-cut : (t bs : List ℕ) (ws : List Token) → (are_whole ws ≡ true → cut bs ≡ map token_text ws) → are_whole (lay t ws) ≡ true →
    cut (t ++ bs) ≡ map token_text (lay t ws)
lay-cut [] bs ws e k = e k
lay-cut (b ∷ t) bs ws e k = lay-step b (is_later_byte b) (cut (t ++ bs)) (lay t ws) (lay-cut t bs ws e) k

IsWord-ident : (t : List ℕ) → All (λ b. IsTrue (is_later_byte b)) t → IsWord t
IsWord-ident [] h = tt
IsWord-ident (b ∷ t) h = (All-head (λ b. IsTrue (is_later_byte b)) b t h, IsWord-ident t (All-tail (λ b. IsTrue (is_later_byte b)) b t h))

pieces-cut : (ps : List Piece) → IsSpelled ps → are_whole (shape ps) ≡ true → cut (text_of_pieces ps) ≡ map token_text (shape ps)
pieces-cut [] h k = refl
pieces-cut (Say t ∷ ps) h k = lay-cut t (text_of_pieces ps) (shape ps) (pieces-cut ps h) k
pieces-cut (Number n ∷ ps) h k =
    fill-cut (Num n) (text_of_pieces ps) (shape ps) (IsWord-digits (decimal n) (decimal_is_IsNumeral n h.0).0.1) (pieces-cut ps h.1) k
pieces-cut (Hex n ∷ ps) h k = fill-cut (Hexa n) (text_of_pieces ps) (shape ps) (IsWord-hex n) (pieces-cut ps h) k
pieces-cut (Called l ∷ ps) h k = fill-cut (Raw l) (text_of_pieces ps) (shape ps) (IsWord-ident l h.0.later) (pieces-cut ps h.1) k

-- the tokens are read back

abbrev pub Fits : List Token → Type 0
Fits [] = Unit {0}
Fits (Num n ∷ ts) = (n < 2 ^ 64) × Fits ts
Fits (_ ∷ ts) = Fits ts

Fits-step : (b : ℕ) (word : Bool) (ws : List Token) → Fits ws → Fits (if word then onto_token b ws else Raw [] ∷ Raw (b ∷ []) ∷ ws)
Fits-step b false ws f = f
Fits-step b true (Raw w ∷ ws) f = f
Fits-step b true ws f = f

Fits-lay : (t : List ℕ) (ws : List Token) → Fits ws → Fits (lay t ws)
Fits-lay [] ws f = f
Fits-lay (b ∷ t) ws f = Fits-step b (is_later_byte b) (lay t ws) (Fits-lay t ws f)

Fits-fill : (token : Token) (ws : List Token) → ((us : List Token) → Fits us → Fits (token ∷ us)) → Fits ws → Fits (fill token ws)
Fits-fill token (Raw [] ∷ ws) g f = g ws f
Fits-fill token ws g f = f

pieces-fit : (ps : List Piece) → IsSpelled ps → Fits (shape ps)
pieces-fit [] h = tt
pieces-fit (Say t ∷ ps) h = Fits-lay t (shape ps) (pieces-fit ps h)
pieces-fit (Number n ∷ ps) h = Fits-fill (Num n) (shape ps) (λ us f. (h.0, f)) (pieces-fit ps h.1)
pieces-fit (Hex n ∷ ps) h = Fits-fill (Hexa n) (shape ps) (λ us f. f) (pieces-fit ps h)
pieces-fit (Called l ∷ ps) h = Fits-fill (Raw l) (shape ps) (λ us f. f) (pieces-fit ps h.1)

no_digit : (x : Bool) → (if x then false else true) ≡ true → x ≡ false
no_digit false e = refl
no_digit true e = absurd (cc)

tokens-read : (ts : List Token) → Fits ts → are_whole ts ≡ true → are_raw ts ≡ true → map read (map token_text ts) ≡ ts
tokens-read [] f k r = refl
tokens-read (Raw [] ∷ ts) f k r = ap (λ us. Raw [] ∷ us) (tokens-read ts f k r)
tokens-read (Raw (b ∷ w) ∷ ts) f k r = let e = both (starts_raw (b ∷ w)) (are_raw ts) r in rw (no_digit (is_digit b) e.0, tokens-read ts f k e.1)
tokens-read (Num n ∷ ts) f k r = rw (read-decimal n f.0, tokens-read ts f.1 k r)
tokens-read (Hexa n ∷ ts) f k r = rw (read-hex n, tokens-read ts f k r)
tokens-read (Bad ∷ ts) f k r = absurd (cc)

pub pieces-read : (ps : List Piece) → IsSpelled ps → are_whole (shape ps) ≡ true → are_raw (shape ps) ≡ true → map read (cut (text_of_pieces ps)) ≡ shape ps
pieces-read ps h k r = ap (map read) (pieces-cut ps h k) ∙ tokens-read (shape ps) (pieces-fit ps h) k r

-- no LF

word_lf : (b : ℕ) → is_later_byte b ≡ true → (b == 10) ≡ false
word_lf b h = grind (arith, nat_tests)

IsWord-lf : (w : List ℕ) → IsWord w → HasNoLf w
IsWord-lf [] h = tt
IsWord-lf (b ∷ w) h = (word_lf b h.0, IsWord-lf w h.1)

text-lf : (t : List ℕ) → has_no_lf t ≡ true → HasNoLf t
text-lf [] h = tt
text-lf (b ∷ t) h = let e = both (if b == 10 then false else true) (has_no_lf t) h in (no_digit (b == 10) e.0, text-lf t e.1)

pub pieces-lf : (ps : List Piece) → IsSpelled ps → say_no_lf ps ≡ true → HasNoLf (text_of_pieces ps)
pieces-lf [] h k = tt
pieces-lf (Say t ∷ ps) h k = let e = both (has_no_lf t) (say_no_lf ps) k in HasNoLf-append t (text_of_pieces ps) (text-lf t e.0) (pieces-lf ps h e.1)
pieces-lf (Number n ∷ ps) h k =
    HasNoLf-append (decimal n) (text_of_pieces ps) (IsWord-lf (decimal n) (IsWord-digits (decimal n) (decimal_is_IsNumeral n h.0).0.1)) (pieces-lf ps h.1 k)
pieces-lf (Hex n ∷ ps) h k = HasNoLf-append (hex n) (text_of_pieces ps) (IsWord-lf (hex n) (IsWord-hex n)) (pieces-lf ps h k)
pieces-lf (Called l ∷ ps) h k = HasNoLf-append l (text_of_pieces ps) (IsWord-lf l (IsWord-ident l h.0.later)) (pieces-lf ps h.1 k)
