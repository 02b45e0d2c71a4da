-- The bytes of the outputs. The texts are this project's own.
use Rattle.std.specs.Prelude.{ℕ, Bool, true, false, Option, None, Some, List, [], ◌∷◌, ◌++◌, codes}
use Rattle.std.specs.List.{flat_map}
use Rattle.space_model.specs.declared.event.Event.{Event}
use Rattle.space_model.specs.declared.event.Event.TheVariants.{Gone, Verdict, Moved, Ran}
use Rattle.space_model.specs.declared.event.Kind.{Kind}
use Rattle.space_model.specs.declared.event.Kind.TheVariants.{Minor, Major, Full as FullKind}
use Rattle.space_model.specs.declared.reply.Refusal.{Refusal}
use Rattle.space_model.specs.declared.reply.Refusal.TheVariants.{TooLarge, NoRoot, NoWord, NotObject, NoField, Protected, NoId, NotMarking, NotCompacting}
use Rattle.space_model.specs.declared.reply.Reply.{Reply}
use Rattle.space_model.specs.declared.stat.Stat.{Stat}
use Rattle.space_model.specs.declared.reply.Reply.TheVariants.{Made, Full, NoMemory, Done, Pushed, Read, Truth, Number as NumberReply, GoneId, Removed, RanCount}
use Rattle.space_model.specs.declared.reply.Reply.TheVariants.{Scanned, Marked, SweepCount, MoveCount, FixCount, StatLine, Dumped, ExitRan, Refused}
use Rattle.space_model.specs.declared.value.Value.{Value}
use Rattle.space_model.specs.declared.value.Value.TheVariants.{Nil, Small, Name}
use Rattle.space_model.specs.declared.object.Style.{Style}
use Rattle.space_model.specs.declared.object.Style.TheVariants.{Movable, Keeping}
use Rattle.space_model.specs.DumpLines.{DumpLine}
use Rattle.space_model.specs.Outputs.{Output, Told, Listed, Peeked, Replied}
use Rattle.space_model.specs.Spelling.{Piece, Say, Number, Hex, Called, text_of_pieces, IsSpelled}

-- the word for a kind of verdict
abbrev pub kind_text : Kind → List ℕ
kind_text Minor = codes "minor"
kind_text Major = codes "major"
kind_text FullKind = codes "full"

-- the pieces of the line of an event
abbrev pub event_pieces : Event → List Piece
event_pieces (Gone name) = Say (codes "! gone #") ∷ Number name ∷ []
event_pieces (Verdict kind gone) = Say (codes "! verdict ") ∷ Say (kind_text kind) ∷ Say (codes " ") ∷ Number gone ∷ []
event_pieces (Moved name from to) = Say (codes "! move #") ∷ Number name ∷ Say (codes " ") ∷ Hex from ∷ Say (codes " ") ∷ Hex to ∷ []
event_pieces (Ran name label) = Say (codes "! final #") ∷ Number name ∷ Say (codes " ") ∷ Called label ∷ []

-- `nil`, `=` and a small integer, or `#` and a name
abbrev pub value_pieces : Value → List Piece
value_pieces Nil = Say (codes "nil") ∷ []
value_pieces (Small number) = Say (codes "=") ∷ Number number ∷ []
value_pieces (Name name) = Say (codes "#") ∷ Number name ∷ []

-- the line of a refusal
abbrev pub refusal_text : Refusal → List ℕ
refusal_text TooLarge = codes "error too large"
refusal_text NoRoot = codes "error no root"
refusal_text NoWord = codes "error no word"
refusal_text NotObject = codes "error not an object"
refusal_text NoField = codes "error no field"
refusal_text Protected = codes "error protected"
refusal_text NoId = codes "error no id"
refusal_text NotMarking = codes "error not marking"
refusal_text NotCompacting = codes "error not compacting"

-- `true` or `false`
abbrev pub truth_text : Bool → List ℕ
truth_text true = codes "true"
truth_text false = codes "false"

-- `#` and the name, or `-` where there is none
abbrev pub named_pieces : Option ℕ → List Piece
named_pieces None = Say (codes "-") ∷ []
named_pieces (Some name) = Say (codes "#") ∷ Number name ∷ []

-- a space, the name of a count, `=` and the number
abbrev pub count_pieces : List ℕ → ℕ → List Piece
count_pieces name number = Say (codes " " ++ name ++ codes "=") ∷ Number number ∷ []

-- the counts, in their order
unfoldable pub stat_pieces : Stat → List Piece
stat_pieces stat =
    count_pieces (codes "count") stat.count
    ++ count_pieces (codes "minor_gc_count") stat.minor_gc_count
    ++ count_pieces (codes "major_gc_count") stat.major_gc_count
    ++ count_pieces (codes "heap_allocated_pages") stat.heap_allocated_pages
    ++ count_pieces (codes "heap_live_slots") stat.heap_live_slots
    ++ count_pieces (codes "heap_free_slots") stat.heap_free_slots
    ++ count_pieces (codes "total_allocated_objects") stat.total_allocated_objects
    ++ count_pieces (codes "total_freed_objects") stat.total_freed_objects
    ++ count_pieces (codes "old_objects") stat.old_objects
    ++ count_pieces (codes "remembered_wb_unprotected_objects") stat.remembered_wb_unprotected_objects
    ++ count_pieces (codes "compact_count") stat.compact_count
    ++ count_pieces (codes "total_moved_objects") stat.total_moved_objects

-- what tells that nothing is left to do
abbrev pub done_text : Bool → List ℕ
done_text true = codes " done"
done_text false = []

-- the pieces of the line of a reply
abbrev pub reply_pieces : Reply → List Piece
reply_pieces (Made name address) = Say (codes "#") ∷ Number name ∷ Say (codes " ") ∷ Hex address ∷ []
reply_pieces Full = Say (codes "full") ∷ []
reply_pieces NoMemory = Say (codes "no memory") ∷ []
reply_pieces Done = Say (codes "ok") ∷ []
reply_pieces (Pushed word names) = Say (codes "word ") ∷ Hex word ∷ Say (codes " names ") ∷ named_pieces names
reply_pieces (Read value) = value_pieces value
reply_pieces (Truth answer) = Say (truth_text answer) ∷ []
reply_pieces (NumberReply number) = Number number ∷ []
reply_pieces GoneId = Say (codes "gone") ∷ []
reply_pieces (Removed count) = Say (codes "removed ") ∷ Number count ∷ []
reply_pieces (RanCount count) = Say (codes "ran ") ∷ Number count ∷ []
reply_pieces (Scanned count) = Say (codes "ok scanned ") ∷ Number count ∷ []
reply_pieces (Marked scanned grey) = Say (codes "scanned ") ∷ Number scanned ∷ Say (codes " grey ") ∷ Number grey ∷ []
reply_pieces (SweepCount freed left) = Say (codes "freed ") ∷ Number freed ∷ Say (codes " left ") ∷ Number left ∷ []
reply_pieces (MoveCount moved done) = Say (codes "moved ") ∷ Number moved ∷ Say (done_text done) ∷ []
reply_pieces (FixCount fixed done) = Say (codes "fixed ") ∷ Number fixed ∷ Say (done_text done) ∷ []
reply_pieces (StatLine stat) = Say (codes "stat") ∷ stat_pieces stat
reply_pieces (Dumped count) = Say (codes "ok dumped ") ∷ Number count ∷ []
reply_pieces (ExitRan count) = Say (codes "ok ran ") ∷ Number count ∷ []
reply_pieces (Refused why) = Say (refusal_text why) ∷ []

-- the words, each behind a space
abbrev pub stored_pieces : List ℕ → List Piece
stored_pieces [] = []
stored_pieces (word ∷ words) = Say (codes " ") ∷ Hex word ∷ stored_pieces words

-- the pieces of the line of an object and its stored words
abbrev pub peek_pieces : ℕ → List ℕ → List Piece
peek_pieces address words = Say (codes "at ") ∷ Hex address ∷ stored_pieces words

-- `M` or `K`
abbrev pub style_text : Style → List ℕ
style_text Movable = codes "M"
style_text Keeping = codes "K"

-- the addresses, each in quotes, with commas between, and then the rest
abbrev pub reference_pieces : List ℕ → List Piece → List Piece
reference_pieces [] rest = rest
reference_pieces (address ∷ []) rest = Say (codes "\"") ∷ Hex address ∷ Say (codes "\"") ∷ rest
reference_pieces (address ∷ next ∷ others) rest = Say (codes "\"") ∷ Hex address ∷ Say (codes "\",") ∷ reference_pieces (next ∷ others) rest

-- the pieces of a line of a dump: a JSON object, without spaces
abbrev pub dump_pieces : DumpLine → List Piece
dump_pieces line =
    Say (codes "{\"address\":\"") ∷ Hex line.address
    ∷ Say (codes "\",\"fields\":") ∷ Number line.fields
    ∷ Say (
    codes ",\"flags\":{\"old\":" ++ truth_text line.old
    ++ codes ",\"style\":\"" ++ style_text line.style
    ++ codes "\",\"wb_protected\":" ++ truth_text line.wb_protected
    ++ codes "},\"name\":"
    ) ∷ Number line.name
    ∷ Say (codes ",\"references\":[")
    ∷ reference_pieces line.references (Say (codes "],\"slot_size\":") ∷ Number line.slot_size ∷ Say (codes ",\"type\":\"OBJECT\"}") ∷ [])

-- the pieces of the line of an output
abbrev pub output_pieces : Output → List Piece
output_pieces (Told event) = event_pieces event
output_pieces (Listed line) = dump_pieces line
output_pieces (Peeked address words) = peek_pieces address words
output_pieces (Replied reply) = reply_pieces reply

-- a line, with its LF
abbrev pub line_of_pieces : List Piece → List ℕ
line_of_pieces pieces = text_of_pieces pieces ++ 10 ∷ []

-- the lines, one after another
abbrev pub text_of : List Output → List ℕ
text_of outputs = flat_map (λ output. line_of_pieces (output_pieces output)) outputs

-- the numbers in base 10 of each output are below 2 ^ 64
abbrev pub AreSpelled : List Output → Type 0
AreSpelled [] = Unit {0}
AreSpelled (output ∷ outputs) = IsSpelled (output_pieces output) × AreSpelled outputs

-- the last line where the line with this number is malformed or too long
abbrev pub malformed_pieces : ℕ → List Piece
malformed_pieces number = Say (codes "line ") ∷ Number number ∷ Say (codes ": malformed") ∷ []
