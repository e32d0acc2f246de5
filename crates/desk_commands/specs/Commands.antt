-- What each command says of a text (docs/COMMANDS.md).
-- Assumes nothing.
use Rattle.std.specs.Prelude.{Bool, true, false, not, List, ℕ, ◌-◌, ltb, length}
use Rattle.model.specs.declared.Size.{Size}
use Rattle.model.specs.Answers.{Outcome, refused, answered}
use Rattle.std.specs.Prelude.{if◌then◌else◌}
use Rattle.model.specs.Survey.{neighbours_of}
use Rattle.model.specs.Threshold.{in_force, bad_threshold}
use Rattle.model.specs.Reading.{AfterReading, parse, reading_of}
use Rattle.model.specs.Writing.{text_of}
use Rattle.model.specs.Dimacs.{uncommented, importing, export_of}
use Rattle.model.specs.Listing.{listing_of}
use Rattle.survey_stops.specs.Stops.{nodes_in, first_says, read_stop, line_at, head_says, file_line}
use Rattle.desk_words.specs.declared.Command.{Command}
use Rattle.desk_words.specs.declared.Command.TheVariants.{Pair, Walk, Test, Hubs, Reports, Check, Write, Export, Import, Help}
use Rattle.desk_words.specs.Words.{reads_text}
use Rattle.desk_sentences.specs.Sentences.{accepted_line}
use Rattle.desk_refusals.specs.declared.Source.{Source}
use Rattle.desk_refusals.specs.declared.Source.TheVariants.{Survey, Listing, File}
use Rattle.desk_refusals.specs.declared.Stop.{Stop}
use Rattle.desk_refusals.specs.Reasons.{text_refused, threshold_refused}
use Rattle.desk_usage.specs.declared.Fault.TheVariants.{TooLong}
use Rattle.desk_usage.specs.Usage.{fault_line, help}
use Rattle.desk_answers.specs.Said.{test_said, hubs_said}
use Rattle.desk_tables.specs.Nodes.{nodes_asked}

-- ---- what is read: `reports` takes a survey within the listing's limits, `import` a file, every other command a survey

abbrev pub source_of : Command → Source
source_of Pair = Survey
source_of Walk = Survey
source_of Test = Survey
source_of Hubs = Survey
source_of Reports = Listing
source_of Check = Survey
source_of Write = Survey
source_of Export = Survey
source_of Import = File
source_of Help = Survey

abbrev pub most_nodes_of : Source → ℕ
most_nodes_of Survey = 1024
most_nodes_of Listing = 128
most_nodes_of File = 1024

abbrev pub most_links_of : Source → ℕ
most_links_of Survey = 16384
most_links_of Listing = 2048
most_links_of File = 16384

abbrev pub most_of : Source → Size
most_of source = record { nodes = most_nodes_of source; links = most_links_of source }

-- a file is taken if it is not too long
unfoldable pub too_long : Source → List ℕ → Bool
too_long Survey text = false
too_long Listing text = false
too_long File text = ltb 524287 (length text)

-- read into the longest lists
abbrev pub text_read : Source → List ℕ → AfterReading
text_read source text = reading_of 1025 32768 (parse (most_nodes_of source) (most_links_of source) 1025 32768 text)

unfoldable pub read_as : Source → List ℕ → AfterReading
read_as Survey text = text_read Survey text
read_as Listing text = text_read Listing text
read_as File text = importing text 1025 32768

-- ---- where reading stops: the nodes of a survey text are numbered from 0, those of a file from 1

abbrev pub text_stop : Source → List ℕ → Stop
text_stop source text = record {
  source = source;
  line = line_at text (read_stop (most_nodes_of source) (most_links_of source) text);
  first = 0;
  last = nodes_in (first_says (most_nodes_of source) (most_links_of source) text) - 1;
  most = most_of source;
}

abbrev pub file_stop : List ℕ → Stop
file_stop text = record {
  source = File;
  line = file_line text;
  first = 1;
  last = nodes_in (head_says (uncommented text));
  most = most_of File;
}

abbrev pub stop_of : Source → List ℕ → Stop
stop_of Survey text = text_stop Survey text
stop_of Listing text = text_stop Listing text
stop_of File text = file_stop text

-- ---- what is said of the survey that was read: t is the threshold, 0 where there is none; a and b are the nodes

unfoldable pub said_of : Command → (t a b : ℕ) → Size → (starts neighbours : List ℕ) → List ℕ
said_of Pair t a b x starts neighbours = nodes_asked false x.nodes t starts neighbours a b
said_of Walk t a b x starts neighbours = nodes_asked true x.nodes t starts neighbours a b
said_of Test t a b x starts neighbours = test_said x.nodes t starts neighbours
said_of Hubs t a b x starts neighbours = hubs_said x.nodes (in_force x.nodes t) (neighbours_of starts neighbours)
said_of Reports t a b x starts neighbours = listing_of x.nodes (in_force x.nodes t) (neighbours_of starts neighbours)
said_of Check t a b x starts neighbours = accepted_line x.nodes x.links
said_of Write t a b x starts neighbours = text_of x.nodes starts neighbours
said_of Export t a b x starts neighbours = export_of x.nodes starts neighbours
said_of Import t a b x starts neighbours = text_of x.nodes starts neighbours
said_of Help t a b x starts neighbours = help

-- if the threshold is not refused; words name none for a command that splits no nodes
unfoldable pub survey_said : Command → (t a b : ℕ) → Size → (starts neighbours : List ℕ) → List ℕ
survey_said c t a b x starts neighbours =
    if bad_threshold t then threshold_refused t else said_of c t a b x starts neighbours

-- ---- what is said of a text: why it is refused, or what is said of its survey

unfoldable pub on_outcome : (ℕ → List ℕ) → (Size → List ℕ) → Outcome Size → List ℕ
on_outcome refuse say (refused k) = refuse k
on_outcome refuse say (answered x) = say x

unfoldable pub read_said : Command → (t a b : ℕ) → List ℕ → AfterReading → List ℕ
read_said c t a b text r =
    on_outcome (λ k. text_refused k (stop_of (source_of c) text)) (λ x. survey_said c t a b x r.starts r.neighbours) r.answer

unfoldable pub command_said : Command → (t a b : ℕ) → List ℕ → List ℕ
command_said c t a b text =
    if not (reads_text c) then help
    else if too_long (source_of c) text then fault_line TooLong c
    else read_said c t a b text (read_as (source_of c) text)
