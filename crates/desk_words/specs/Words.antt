-- What a word says, the first one and those behind it, and what all of them ask (docs/COMMANDS.md).
-- Assumes nothing.
use Rattle.std.specs.Prelude.{Bool, true, false, not, ◌&&◌, List, [], ◌∷◌, ℕ, eqb, ltb, Option, Some, None, Result, Ok, Err}
use Rattle.model.specs.Basics.{same, bytes}
use Rattle.std.specs.Prelude.{if◌then◌else◌}
use Rattle.model.specs.Numbers.{is_number, value_of}
use Rattle.desk_words.specs.declared.Command.{Command}
use Rattle.desk_words.specs.declared.Command.TheVariants.{Pair, Walk, Test, Hubs, Reports, Check, Write, Export, Import, Help}
use Rattle.desk_words.specs.declared.Word.{Word}
use Rattle.desk_words.specs.declared.Word.TheVariants as word
use Rattle.desk_words.specs.declared.Question.{Question}
use Rattle.desk_words.specs.declared.WordFault.{WordFault}
use Rattle.desk_words.specs.declared.WordFault.TheVariants.{NoNumber, TooMany}

-- the command whose name a word is, or what is found otherwise
unfoldable pub if_named : (w name : List ℕ) → Command → Option Command → Option Command
if_named w name c found = if same w name then Some c else found

unfoldable pub command_of : List ℕ → Option Command
command_of w =
    if_named w (bytes "pair") Pair
    (if_named w (bytes "walk") Walk
    (if_named w (bytes "test") Test
    (if_named w (bytes "hubs") Hubs
    (if_named w (bytes "reports") Reports
    (if_named w (bytes "check") Check
    (if_named w (bytes "write") Write
    (if_named w (bytes "export") Export
    (if_named w (bytes "import") Import
    (if_named w (bytes "help") Help None)))))))))

unfoldable pub word_of : List ℕ → Word
word_of w =
    if same w (bytes "--threshold") then word.Option
    else if is_number w then word.Number (value_of w)
    else word.Other

-- ---- commands: how many nodes each asks for, whether it splits nodes and so takes a threshold, and whether it reads a text

abbrev pub nodes_of : Command → ℕ
nodes_of Pair = 2
nodes_of Walk = 2
nodes_of Test = 0
nodes_of Hubs = 0
nodes_of Reports = 0
nodes_of Check = 0
nodes_of Write = 0
nodes_of Export = 0
nodes_of Import = 0
nodes_of Help = 0

abbrev pub splits_nodes : Command → Bool
splits_nodes Pair = true
splits_nodes Walk = true
splits_nodes Test = true
splits_nodes Hubs = true
splits_nodes Reports = true
splits_nodes Check = false
splits_nodes Write = false
splits_nodes Export = false
splits_nodes Import = false
splits_nodes Help = false

abbrev pub reads_text : Command → Bool
reads_text Pair = true
reads_text Walk = true
reads_text Test = true
reads_text Hubs = true
reads_text Reports = true
reads_text Check = true
reads_text Write = true
reads_text Export = true
reads_text Import = true
reads_text Help = false

-- ---- words, from left to right: what each makes of the question so far, or what is wrong with it

abbrev pub nothing_yet : Question
nothing_yet = record { nodes = 0; a = 0; b = 0; threshold = 0; named = false; number_next = false }

abbrev pub with_threshold : Question → ℕ → Question
with_threshold q t = record { nodes = q.nodes; a = q.a; b = q.b; threshold = t; named = q.named; number_next = false }

abbrev pub with_node : Question → ℕ → Question
with_node q v =
    if eqb q.nodes 0
    then record { nodes = 1; a = v; b = q.b; threshold = q.threshold; named = q.named; number_next = q.number_next }
    else record { nodes = 2; a = q.a; b = v; threshold = q.threshold; named = q.named; number_next = q.number_next }

abbrev pub with_option : Question → Question
with_option q = record { nodes = q.nodes; a = q.a; b = q.b; threshold = q.threshold; named = true; number_next = true }

-- a number is the threshold where one comes next, then a node while the command lacks one
abbrev pub number_taken : Command → Question → ℕ → Result Question WordFault
number_taken c q v =
    if q.number_next then Ok (with_threshold q v)
    else if ltb q.nodes (nodes_of c) then Ok (with_node q v)
    else Err TooMany

-- any other word is no number where one is needed, and else one too many
abbrev pub fault_of : Command → Question → WordFault
fault_of c q = if q.number_next then NoNumber else if ltb q.nodes (nodes_of c) then NoNumber else TooMany

abbrev pub other_taken : Command → Question → Result Question WordFault
other_taken c q = Err (fault_of c q)

-- the option is taken once, by a command that splits nodes
abbrev pub option_taken : Command → Question → Result Question WordFault
option_taken c q = if splits_nodes c && not q.named then Ok (with_option q) else other_taken c q

abbrev pub word_taken : Command → Question → Word → Result Question WordFault
word_taken c q word.Option = option_taken c q
word_taken c q (word.Number v) = number_taken c q v
word_taken c q word.Other = other_taken c q

-- all is there that the command asks for
abbrev pub is_whole : Command → Question → Bool
is_whole c q = not q.number_next && eqb q.nodes (nodes_of c)

abbrev pub on_taken : (Question → Result Question WordFault) → Result Question WordFault → Result Question WordFault
on_taken next (Ok q) = next q
on_taken next (Err f) = Err f

unfoldable pub all_taken : Command → Question → List Word → Result Question WordFault
all_taken c q [] = Ok q
all_taken c q (w ∷ ws) = on_taken (λ r. all_taken c r ws) (word_taken c q w)
