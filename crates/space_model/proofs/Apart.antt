-- An output is read back from its line.
use Rattle.std.proofs.Common.{◌≡◌, ◌==◌, ℕ, Bool, true, false, ◌&&◌, ◌||◌, if◌then◌else◌, List, [], ◌∷◌, ◌++◌, map, drop, get_or, codes, IsTrue, refl, ap, sym, arith, ◌∙◌, Option, Some, None}
use mathlib.Core.List.{append_assoc}
use Rattle.std.specs.Str.{bytes_eq}
use Rattle.std.proofs.lemmas.Bool.Decides.{nat_tests}
use Rattle.space_model.specs.declared.value.Value.TheVariants.{Nil, Small, Name}
use Rattle.space_model.specs.declared.event.Event.TheVariants.{Gone, Verdict, Moved, Ran}
use Rattle.space_model.specs.declared.event.Kind.TheVariants.{Minor, Major, Full as FullKind}
use Rattle.space_model.specs.declared.reply.Refusal.TheVariants.{TooLarge, NoRoot, NoWord, NotObject, NoField, Protected, NoId, NotMarking, NotCompacting}
use Rattle.space_model.specs.declared.reply.Reply.TheVariants.{Made, Full, NoMemory, Done, Pushed, Read, Truth, Number as NumberReply, GoneId, Removed, RanCount}
use Rattle.space_model.specs.declared.reply.Reply.TheVariants.{Scanned, Marked, SweepCount, MoveCount, FixCount, StatLine, Dumped, ExitRan, Refused}
use Rattle.space_model.specs.declared.object.Style.{Style}
use Rattle.space_model.specs.declared.object.Style.TheVariants.{Movable, Keeping}
use Rattle.space_model.specs.declared.stat.Stat.{Stat}
use Rattle.space_model.specs.DumpLines.{DumpLine}
use Rattle.space_model.specs.Idents.{IsIdent, is_first_byte}
use Rattle.space_model.specs.Outputs.{Output, Told, Listed, Peeked, Replied}
use Rattle.space_model.specs.Lines.{lines_of}
use Rattle.space_model.specs.Spelling.{Piece, Say, Number, text_of_pieces, IsSpelled}
use Rattle.space_model.specs.Texts.{stat_pieces, stored_pieces, reference_pieces, output_pieces, text_of, AreSpelled}
use Rattle.space_model.proofs.LineLemmas.{lines_of-cut}
use Rattle.space_model.proofs.Cutting.{is_digit, starts_raw, Token, Raw, Num, Hexa, Bad, cut, read, shape, are_whole, are_raw, say_no_lf, pieces-read, pieces-lf}

abbrev pub alike : Token → Token → Bool
alike (Raw a) (Raw b) = bytes_eq a b
alike (Num a) (Num b) = true
alike (Hexa a) (Hexa b) = true
alike _ _ = false

-- the same but for numbers
abbrev pub all_alike : List Token → List Token → Bool
all_alike [] [] = true
all_alike (a ∷ rest) (b ∷ bs) = alike a b && all_alike rest bs
all_alike _ _ = false

abbrev pub numbers : List Token → List ℕ
numbers [] = []
numbers (Num n ∷ ts) = n ∷ numbers ts
numbers (Hexa n ∷ ts) = n ∷ numbers ts
numbers (_ ∷ ts) = numbers ts

-- the counts that are these numbers, in their order
abbrev pub stat_of : (ℕ → ℕ) → Stat
stat_of n = record {
  count = n 0;
  minor_gc_count = n 1;
  major_gc_count = n 2;
  heap_allocated_pages = n 3;
  heap_live_slots = n 4;
  heap_free_slots = n 5;
  total_allocated_objects = n 6;
  total_freed_objects = n 7;
  old_objects = n 8;
  remembered_wb_unprotected_objects = n 9;
  compact_count = n 10;
  total_moved_objects = n 11;
}

-- the last of the tokens that are no numbers
abbrev pub last_text : List Token → List ℕ
last_text [] = []
last_text (Raw t ∷ []) = t
last_text (t ∷ ts) = last_text ts

-- one of each form but that of a dump, with these numbers and this last text
abbrev pub forms : (ℕ → ℕ) → List ℕ → List ℕ → List Output
forms n ns label =
    Told (Gone (n 0)) ∷ Told (Verdict Minor (n 0)) ∷ Told (Verdict Major (n 0)) ∷ Told (Verdict FullKind (n 0)) ∷ Told (Moved (n 0) (n 1) (n 2))
    ∷ Told (Ran (n 0) label)
    ∷ Replied (Made (n 0) (n 1)) ∷ Replied Full ∷ Replied NoMemory ∷ Replied Done
    ∷ Replied (Pushed (n 0) None) ∷ Replied (Pushed (n 0) (Some (n 1)))
    ∷ Replied (Read Nil) ∷ Replied (Read (Small (n 0))) ∷ Replied (Read (Name (n 0)))
    ∷ Replied (Truth true) ∷ Replied (Truth false)
    ∷ Replied (NumberReply (n 0)) ∷ Replied GoneId ∷ Replied (Removed (n 0)) ∷ Replied (RanCount (n 0))
    ∷ Replied (Scanned (n 0)) ∷ Replied (Marked (n 0) (n 1)) ∷ Replied (SweepCount (n 0) (n 1))
    ∷ Replied (MoveCount (n 0) true) ∷ Replied (MoveCount (n 0) false) ∷ Replied (FixCount (n 0) true) ∷ Replied (FixCount (n 0) false)
    ∷ Replied (StatLine (stat_of n))
    ∷ Replied (Dumped (n 0)) ∷ Replied (ExitRan (n 0))
    ∷ Replied (Refused TooLarge) ∷ Replied (Refused NoRoot) ∷ Replied (Refused NoWord) ∷ Replied (Refused NotObject) ∷ Replied (Refused NoField)
    ∷ Replied (Refused Protected) ∷ Replied (Refused NoId) ∷ Replied (Refused NotMarking) ∷ Replied (Refused NotCompacting)
    ∷ Peeked (n 0) (drop 1 ns) ∷ []

abbrev pub pick : List Output → List Token → Option Output
pick [] ts = None
pick (o ∷ os) ts = if all_alike (shape (output_pieces o)) ts then Some o else pick os ts

-- a dump

abbrev pub last_of : List ℕ → ℕ
last_of [] = 0
last_of (n ∷ []) = n
last_of (n ∷ m ∷ ns) = last_of (m ∷ ns)

abbrev pub front_of : List ℕ → List ℕ
front_of [] = []
front_of (n ∷ []) = []
front_of (n ∷ m ∷ ns) = n ∷ front_of (m ∷ ns)

-- the truth values and styles among the texts
abbrev pub flag_of : List ℕ → List Bool
flag_of t =
    if bytes_eq t (codes "true") || bytes_eq t (codes "M") then true ∷ []
    else if bytes_eq t (codes "false") || bytes_eq t (codes "K") then false ∷ []
    else []

abbrev pub flags : List Token → List Bool
flags [] = []
flags (Raw t ∷ ts) = flag_of t ++ flags ts
flags (_ ∷ ts) = flags ts

abbrev pub style_of : Bool → Style
style_of true = Movable
style_of false = Keeping

abbrev pub dump_of : List ℕ → Bool → Bool → Bool → Output
dump_of ns old movable protected = Listed (record {
  address = get_or ns 0 0;
  fields = get_or ns 1 0;
  old = old;
  style = style_of movable;
  wb_protected = protected;
  name = get_or ns 2 0;
  references = front_of (drop 3 ns);
  slot_size = last_of (drop 3 ns);
})

abbrev pub is_dump : List Token → Bool
is_dump (_ ∷ Raw t ∷ _) = bytes_eq t (codes "{")
is_dump _ = false

abbrev pub output_of : List Token → Option Output
output_of ts =
    if is_dump ts then Some (dump_of (numbers ts) (get_or (flags ts) 0 false) (get_or (flags ts) 1 false) (get_or (flags ts) 2 false))
    else pick (forms (λ i. get_or (numbers ts) i 0) (numbers ts) (last_text ts)) ts

-- tokens are whole; words are no numbers; no LF; and the output comes back
abbrev IsClear : Output → Type 0
IsClear o = (are_whole (shape (output_pieces o)) ≡ true) × (are_raw (shape (output_pieces o)) ≡ true) × (say_no_lf (output_pieces o) ≡ true) ×
    (output_of (shape (output_pieces o)) ≡ Some o)

-- a label

bytes-same : (t : List ℕ) → bytes_eq t t ≡ true
bytes-same [] = refl
bytes-same (b ∷ t) = let e : (b == b) ≡ true = grind (arith, nat_tests) in rw (e, bytes-same t)

first_no_digit : (b : ℕ) → IsTrue (is_first_byte b) → is_digit b ≡ false
first_no_digit b h = grind (arith, nat_tests)

raw-ident : (label : List ℕ) → IsIdent label → starts_raw label ≡ true
raw-ident [] h = refl
raw-ident (b ∷ t) h = rw (first_no_digit b h.first)

all-alike : (ts : List Token) → are_whole ts ≡ true → all_alike ts ts ≡ true
all-alike [] k = refl
all-alike (Raw t ∷ ts) k = rw (bytes-same t) (all-alike ts k)
all-alike (Num n ∷ ts) k = all-alike ts k
all-alike (Hexa n ∷ ts) k = all-alike ts k
all-alike (Bad ∷ ts) k = absurd (cc)

-- stored words

abbrev word_tokens : List ℕ → List Token
word_tokens [] = []
word_tokens (w ∷ ws) = Raw (32 ∷ []) ∷ Hexa w ∷ word_tokens ws

shape-words : (ws : List ℕ) → shape (stored_pieces ws) ≡ Raw [] ∷ word_tokens ws
shape-words [] = refl
shape-words (w ∷ ws) = rw (shape-words ws)

whole-words : (ws : List ℕ) → are_whole (word_tokens ws) ≡ true
whole-words [] = refl
whole-words (w ∷ ws) = whole-words ws

raw-words : (ws : List ℕ) → are_raw (word_tokens ws) ≡ true
raw-words [] = refl
raw-words (w ∷ ws) = raw-words ws

numbers-words : (ws : List ℕ) → numbers (word_tokens ws) ≡ ws
numbers-words [] = refl
numbers-words (w ∷ ws) = ap (λ ns. w ∷ ns) (numbers-words ws)

words-lf : (ws : List ℕ) → say_no_lf (stored_pieces ws) ≡ true
words-lf [] = refl
words-lf (w ∷ ws) = words-lf ws

peek-clear : (address : ℕ) (ws : List ℕ) → IsClear (Peeked address ws)
unfolding stat_pieces
peek-clear address ws = (
  rw (shape-words ws) (whole-words ws),
  rw (shape-words ws) (raw-words ws),
  words-lf ws,
  rw (shape-words ws, numbers-words ws, shape-words ws, all-alike (word_tokens ws) (whole-words ws)),
)

-- references

abbrev reference_tokens : List ℕ → List Token → List Token
reference_tokens [] us = us
reference_tokens (a ∷ []) us = Raw [] ∷ Raw (34 ∷ []) ∷ Hexa a ∷ Raw (34 ∷ []) ∷ us
reference_tokens (a ∷ b ∷ rs) us = Raw [] ∷ Raw (34 ∷ []) ∷ Hexa a ∷ Raw (34 ∷ []) ∷ Raw [] ∷ Raw (44 ∷ []) ∷ reference_tokens (b ∷ rs) us

shape-references : (rs : List ℕ) (rest : List Piece) → shape (reference_pieces rs rest) ≡ reference_tokens rs (shape rest)
shape-references [] rest = refl
shape-references (a ∷ []) rest = refl
shape-references (a ∷ b ∷ rs) rest = rw (shape-references (b ∷ rs) rest)

whole-references : (rs : List ℕ) (us : List Token) → are_whole us ≡ true → are_whole (reference_tokens rs us) ≡ true
whole-references [] us k = k
whole-references (a ∷ []) us k = k
whole-references (a ∷ b ∷ rs) us k = whole-references (b ∷ rs) us k

raw-references : (rs : List ℕ) (us : List Token) → are_raw us ≡ true → are_raw (reference_tokens rs us) ≡ true
raw-references [] us k = k
raw-references (a ∷ []) us k = k
raw-references (a ∷ b ∷ rs) us k = raw-references (b ∷ rs) us k

lf-references : (rs : List ℕ) (rest : List Piece) → say_no_lf rest ≡ true → say_no_lf (reference_pieces rs rest) ≡ true
lf-references [] rest k = k
lf-references (a ∷ []) rest k = k
lf-references (a ∷ b ∷ rs) rest k = lf-references (b ∷ rs) rest k

numbers-references : (rs : List ℕ) (us : List Token) → numbers (reference_tokens rs us) ≡ rs ++ numbers us
numbers-references [] us = refl
numbers-references (a ∷ []) us = refl
numbers-references (a ∷ b ∷ rs) us = ap (λ ns. a ∷ ns) (numbers-references (b ∷ rs) us)

front-back : (rs : List ℕ) (s : ℕ) → front_of (rs ++ s ∷ []) ≡ rs
front-back [] s = refl
front-back (a ∷ []) s = refl
front-back (a ∷ b ∷ rs) s = ap (λ ns. a ∷ ns) (front-back (b ∷ rs) s)

last-back : (rs : List ℕ) (s : ℕ) → last_of (rs ++ s ∷ []) ≡ s
last-back [] s = refl
last-back (a ∷ []) s = refl
last-back (a ∷ b ∷ rs) s = last-back (b ∷ rs) s

-- after the references
abbrev end_pieces : ℕ → List Piece
end_pieces s = Say (codes "],\"slot_size\":") ∷ Number s ∷ Say (codes ",\"type\":\"OBJECT\"}") ∷ []

abbrev line_with : Bool → Style → Bool → ℕ → ℕ → ℕ → ℕ → List ℕ → DumpLine
line_with old style protected a f n s rs =
    record { address = a; fields = f; old = old; style = style; wb_protected = protected; name = n; references = rs; slot_size = s }

dump-clear : (old : Bool) (style : Style) (protected : Bool) (a f n s : ℕ) (rs : List ℕ) → IsClear (Listed (line_with old style protected a f n s rs))
dump-clear true Movable true a f n s rs = (
  rw (shape-references rs (end_pieces s)) (whole-references rs (shape (end_pieces s)) refl),
  rw (shape-references rs (end_pieces s)) (raw-references rs (shape (end_pieces s)) refl),
  lf-references rs (end_pieces s) refl,
  rw (shape-references rs (end_pieces s), numbers-references rs (shape (end_pieces s)), front-back rs s, last-back rs s),
)
dump-clear true Keeping true a f n s rs = (
  rw (shape-references rs (end_pieces s)) (whole-references rs (shape (end_pieces s)) refl),
  rw (shape-references rs (end_pieces s)) (raw-references rs (shape (end_pieces s)) refl),
  lf-references rs (end_pieces s) refl,
  rw (shape-references rs (end_pieces s), numbers-references rs (shape (end_pieces s)), front-back rs s, last-back rs s),
)
dump-clear false Movable true a f n s rs = (
  rw (shape-references rs (end_pieces s)) (whole-references rs (shape (end_pieces s)) refl),
  rw (shape-references rs (end_pieces s)) (raw-references rs (shape (end_pieces s)) refl),
  lf-references rs (end_pieces s) refl,
  rw (shape-references rs (end_pieces s), numbers-references rs (shape (end_pieces s)), front-back rs s, last-back rs s),
)
dump-clear false Keeping true a f n s rs = (
  rw (shape-references rs (end_pieces s)) (whole-references rs (shape (end_pieces s)) refl),
  rw (shape-references rs (end_pieces s)) (raw-references rs (shape (end_pieces s)) refl),
  lf-references rs (end_pieces s) refl,
  rw (shape-references rs (end_pieces s), numbers-references rs (shape (end_pieces s)), front-back rs s, last-back rs s),
)
dump-clear _ _ _ a f n s rs = (
  rw (shape-references rs (end_pieces s)) (whole-references rs (shape (end_pieces s)) refl),
  rw (shape-references rs (end_pieces s)) (raw-references rs (shape (end_pieces s)) refl),
  lf-references rs (end_pieces s) refl,
  rw (shape-references rs (end_pieces s), numbers-references rs (shape (end_pieces s)), front-back rs s, last-back rs s),
)

-- each form by itself; a clause for each type with cases within Reply
clear : (o : Output) → IsSpelled (output_pieces o) → IsClear o
unfolding stat_pieces
clear (Listed line) h = dump-clear line.old line.style line.wb_protected line.address line.fields line.name line.slot_size line.references
clear (Peeked address words) h = peek-clear address words
clear (Told (Ran name label)) h = (refl, rw (raw-ident label h.1.0), refl, rw (bytes-same label))
clear (Told (Verdict Minor gone)) h = (refl, refl, refl, refl)
clear (Replied (Pushed word None)) h = (refl, refl, refl, refl)
clear (Replied (Read Nil)) h = (refl, refl, refl, refl)
clear (Replied (Truth true)) h = (refl, refl, refl, refl)
clear (Replied (MoveCount moved true)) h = (refl, refl, refl, refl)
clear (Replied (FixCount fixed true)) h = (refl, refl, refl, refl)
clear (Replied (Refused TooLarge)) h = (refl, refl, refl, refl)
clear _ h = (refl, refl, refl, refl)

-- the reading of a text
read_outputs : List ℕ → List (Option Output)
read_outputs bytes = map (λ line. output_of (map read (cut line))) (lines_of bytes)

read-back : (os : List Output) → AreSpelled os → map (λ line. output_of (map read (cut line))) (lines_of (text_of os)) ≡ map Some os
read-back [] h = refl
read-back (o ∷ os) h =
    let k = clear o h.0 in
    let line = text_of_pieces (output_pieces o) in
    let e : output_of (map read (cut line)) ≡ Some o = ap output_of (pieces-read (output_pieces o) h.0 k.0 k.1) ∙ k.3 in
    rw (append_assoc line (10 ∷ []) (text_of os), lines_of-cut line (text_of os) (pieces-lf (output_pieces o) h.0 k.2), e, read-back os h.1)

all_some : (os bs : List Output) → map (λ (o : Output). Some o) os ≡ map (λ (o : Output). Some o) bs → os ≡ bs
all_some [] [] e = refl
all_some [] (b ∷ bs) e = absurd (cc)
all_some (a ∷ rest) [] e = absurd (cc)
all_some (a ∷ rest) (b ∷ bs) e =
    let h : a ≡ b = cc in
    let t : map (λ (o : Output). Some o) rest ≡ map (λ (o : Output). Some o) bs = cc in
    rw (h, all_some rest bs t)

pub texts_apart : (os bs : List Output) → AreSpelled os → AreSpelled bs → text_of os ≡ text_of bs → os ≡ bs
texts_apart os bs h k e = all_some os bs (sym (read-back os h) ∙ ap (λ t. map (λ line. output_of (map read (cut line))) (lines_of t)) e ∙ read-back bs k)
