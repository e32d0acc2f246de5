-- What is said where words are not understood or a file is too long: the fault, and how the command is used (docs/COMMANDS.md).
-- Assumes nothing.
use Rattle.std.specs.Prelude.{List, [], ◌∷◌, ◌++◌, ℕ}
use Rattle.model.specs.Basics.{bytes}
use Rattle.desk_words.specs.declared.Command.{Command}
use Rattle.desk_words.specs.declared.Command.TheVariants.{Pair, Walk, Test, Hubs, Reports, Check, Write, Export, Import, Help}
use Rattle.desk_words.specs.declared.WordFault.TheVariants.{NoNumber, TooMany}
use Rattle.desk_sentences.specs.Sentences.{sentence}
use Rattle.desk_usage.specs.declared.Fault.{Fault}
use Rattle.desk_usage.specs.declared.Fault.TheVariants.{Word, Missing, TooLong}

-- where the first word is not a command
unfoldable pub no_command : List ℕ
no_command =
    bytes "not understood: the first word is not a command; usage: puxerdau COMMAND [WORDS ..] < survey.txt; "
    ++ bytes "commands: pair walk test hubs reports check write export import help\n"

unfoldable pub usage : Command → List ℕ
usage Pair = bytes "pair A B [--threshold T] < survey.txt\n"
usage Walk = bytes "walk A B [--threshold T] < survey.txt\n"
usage Test = bytes "test [--threshold T] < survey.txt\n"
usage Hubs = bytes "hubs [--threshold T] < survey.txt\n"
usage Reports = bytes "reports [--threshold T] < survey.txt\n"
usage Check = bytes "check < survey.txt\n"
usage Write = bytes "write < survey.txt\n"
usage Export = bytes "export < survey.txt\n"
usage Import = bytes "import < edges.col\n"
usage Help = bytes "help\n"

unfoldable pub fault : Fault → List ℕ
fault (Word k NoNumber) =
    sentence (bytes "not understood: word # after the command is not a number (one to ten digits, no leading zero); usage: puxerdau ") (k ∷ [])
fault (Word k TooMany) = sentence (bytes "not understood: word # after the command is one too many; usage: puxerdau ") (k ∷ [])
fault Missing = bytes "not understood: a word is missing; usage: puxerdau "
fault TooLong = bytes "not taken: the file has more than 524287 bytes (leave out comments); usage: puxerdau "

unfoldable pub fault_line : Fault → Command → List ℕ
fault_line f c = fault f ++ usage c

-- what `help` says
unfoldable pub help : List ℕ
help =
    bytes "puxerdau: how many links a message needs between two nodes of a survey\n"
    ++ bytes "usage: puxerdau COMMAND [WORDS ..] < survey.txt\n"
    ++ bytes "\n"
    ++ bytes "pair A B  the report of two nodes         puxerdau pair 1 3 < survey.txt\n"
    ++ bytes "walk A B  the same, and the nodes between puxerdau walk 1 3 < survey.txt\n"
    ++ bytes "test      are all nodes near each other?  puxerdau test < survey.txt\n"
    ++ bytes "hubs      hubs, and how many high nodes   puxerdau hubs < survey.txt\n"
    ++ bytes "reports   a line for each two nodes       puxerdau reports < survey.txt\n"
    ++ bytes "check     is the survey accepted?         puxerdau check < survey.txt\n"
    ++ bytes "write     the survey, its lines in order  puxerdau write < survey.txt\n"
    ++ bytes "export    the survey as an edge file      puxerdau export < survey.txt > edges.col\n"
    ++ bytes "import    an edge file as a survey        puxerdau import < edges.col > survey.txt\n"
    ++ bytes "help      this page                       puxerdau help\n"
    ++ bytes "\n"
    ++ bytes "--threshold T after pair, walk, test, hubs or reports: nodes with T or more\n"
    ++ bytes "neighbours are high, as in: puxerdau test --threshold 3 < survey.txt\n"
    ++ bytes "Without it a stored table says how many neighbours that takes.\n"
    ++ bytes "A survey is a line S,n,m and then m lines L,a,b: n nodes, numbered from 0, and\n"
    ++ bytes "m links, at most 1024 and 16384 (reports: 128 and 2048). Each line ends in a\n"
    ++ bytes "line feed. An edge file is in DIMACS form.\n"
    ++ bytes "A report is never below the fewest links, and at most two above them.\n"
    ++ bytes "What is refused is said in one line: refused, a number, the place, and why.\n"
