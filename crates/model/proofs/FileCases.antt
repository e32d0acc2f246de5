-- DIMACS edge files as one table, which antt computes: what is imported or exported, and what has to be answered and left. A file is given
-- by its literal text.
-- Assumes nothing.
use mathlib.Core.Path.{◌≡◌, refl}
use mathlib.Core.List.{List, [], ◌∷◌, ◌++◌, map}
use mathlib.Core.Option.{bind}
use Prim.Native.Nat.{ℕ}
use Prim.Native.String.{String}
use lib.ListN.{replicate}
use Rattle.model.specs.Answers.{refused, answered}
use Rattle.model.specs.Basics.{from, up_to, has, all, keep, gather, over, bytes}
use Rattle.model.specs.Numbers.{is_digit, is_number, value_from, value_of, digits_within, digits}
use Rattle.model.specs.Lines.{on_first, split, joined, on_front, cut, behind, after_empty, fields_behind, field_line}
use Rattle.model.specs.Lines.{numbers_in, number_line, two_line}
use Rattle.model.specs.SurveyText.{ordered}
use Rattle.model.specs.Survey.{neighbours_of, ascending, is_survey, bad_size, accepting}
use Rattle.model.specs.Reading.{limits_of, named, on_links, read_on, parsed, graph_of, starts_of, neighbours_from, AfterReading, reading_of}
use Rattle.model.specs.Writing.{AfterWriting, writing_of}
use Rattle.model.specs.Dimacs.{is_comment, no_comments, uncommented, head_line, edge_line, edge_lines, file_text}
use Rattle.model.specs.Dimacs.{head_of, edge_of, read_edges, file_of, once_after, importing, export_of, exporting}

-- a text is imported into lists of p and q entries; a survey is exported into a buffer of zeros
pub data Question : Type 0 where
  import : (text : String) (p q : ℕ) → Question
  export : (n : ℕ) (starts neighbours : List ℕ) (room : ℕ) → Question

pub data Reply : Type 0 where
  lists : AfterReading → Reply
  buffer : AfterWriting → Reply

pub reply : Question → Reply
reply (import text p q) = lists (importing (bytes text) p q)
reply (export n starts neighbours room) = buffer (exporting n starts neighbours (replicate room 0))

-- an import that is refused, and one that is not; an export that is refused, and one that is not, with what is past its text
stopped : (k p q : ℕ) → Reply
stopped k p q = lists (record { answer = refused k; starts = replicate p 0; neighbours = replicate q 0 })

survey : (n m : ℕ) (starts neighbours : List ℕ) → Reply
survey n m starts neighbours =
    lists (record { answer = answered (record { nodes = n; links = m }); starts = starts; neighbours = neighbours })

unwritten : (k room : ℕ) → Reply
unwritten k room = buffer (record { answer = refused k; buffer = replicate room 0 })

written : (k : ℕ) → String → (past : List ℕ) → Reply
written k text past = buffer (record { answer = answered k; buffer = bytes text ++ past })

pub cases : List (Question × Reply)
cases =
    -- links, from either end and more than once, and comments before, between and behind them
    (import "p edge 1 0\n" 3 1, survey 1 0 (0 ∷ 0 ∷ 0 ∷ []) (0 ∷ []))
    ∷ (import "p edge 2 1\ne 2 1\n" 3 2, survey 2 1 (0 ∷ 1 ∷ 2 ∷ []) (1 ∷ 0 ∷ []))
    ∷ (
      import "c a\np edge 3 4\ne 1 2\nc b\ne 2 1\ne 3 2\ne 3 2\nc\n" 4 8,
      survey 3 2 (0 ∷ 1 ∷ 3 ∷ 4 ∷ []) (1 ∷ 0 ∷ 2 ∷ 1 ∷ 0 ∷ 0 ∷ 0 ∷ 0 ∷ []),
    )
    ∷ (import "p edge 2 2\ne 1 2\ne 2 1\n" 4 5, survey 2 1 (0 ∷ 1 ∷ 2 ∷ 0 ∷ []) (1 ∷ 0 ∷ 0 ∷ 0 ∷ 0 ∷ []))
    ∷ (import "p edge 2 1\ne 1 2\nc the end\n" 3 2, survey 2 1 (0 ∷ 1 ∷ 2 ∷ []) (1 ∷ 0 ∷ []))
    ∷ (import "cx\nc\r\np edge 1 0\n" 2 0, survey 1 0 (0 ∷ 0 ∷ []) [])
    ∷ (import "p edge 2 1\nc e 2 2\ne 1 2\n" 3 2, survey 2 1 (0 ∷ 1 ∷ 2 ∷ []) (1 ∷ 0 ∷ []))
    -- the first line
    ∷ (import "" 3 2, stopped 13 3 2)
    ∷ (import "c\n" 3 2, stopped 13 3 2)
    ∷ (import "\np edge 1 0\n" 3 2, stopped 13 3 2)
    ∷ (import "C\np edge 1 0\n" 3 2, stopped 13 3 2)
    ∷ (import " c\np edge 1 0\n" 3 2, stopped 13 3 2)
    ∷ (import "p edge 1 0" 3 2, stopped 13 3 2)
    ∷ (import "p edge 1\n" 3 2, stopped 13 3 2)
    ∷ (import "p  edge 2 0\n" 3 2, stopped 13 3 2)
    ∷ (import "p col 2 1\ne 1 2\n" 3 2, stopped 13 3 2)
    ∷ (import "p edge 2 1\r\ne 1 2\r\n" 3 2, stopped 13 3 2)
    ∷ (import "e 1 2\np edge 2 1\n" 3 2, stopped 13 3 2)
    ∷ (import "p edge 0 16385\n" 0 0, stopped 2 0 0)
    ∷ (import "p edge 1025 0\n" 3 2, stopped 2 3 2)
    ∷ (import "p edge 9999999999 0\n" 3 2, stopped 2 3 2)
    ∷ (import "p edge 10000000000 0\n" 3 2, stopped 13 3 2)
    ∷ (import "p edge 2 16385\n" 0 0, stopped 3 0 0)
    ∷ (import "p edge 2 1\n" 2 2, stopped 8 2 2)
    ∷ (import "p edge 2 1\n" 3 1, stopped 8 3 1)
    ∷ (import "p edge 2 2\ne 1 2\ne 2 1\n" 3 3, stopped 8 3 3)
    -- the others: their form
    ∷ (import "p edge 2 1\np edge 2 1\ne 1 2\n" 3 2, stopped 13 3 2)
    ∷ (import "p edge 2 1\ne 1 2" 3 2, stopped 13 3 2)
    ∷ (import "p edge 2 1\ne 1 2 \n" 3 2, stopped 13 3 2)
    ∷ (import "p edge 2 1\ne 1 2\r\n" 3 2, stopped 13 3 2)
    ∷ (import "p edge 2 1\ne  1 2\n" 3 2, stopped 13 3 2)
    ∷ (import "p edge 2 1\ne 1\t2\n" 3 2, stopped 13 3 2)
    ∷ (import "p edge 2 1\ne 01 2\n" 3 2, stopped 13 3 2)
    ∷ (import "p edge 2 1\ne 1 10000000000\n" 3 2, stopped 13 3 2)
    -- their nodes
    ∷ (import "p edge 2 1\ne 0 1\n" 3 2, stopped 4 3 2)
    ∷ (import "p edge 2 1\ne 3 1\n" 3 2, stopped 4 3 2)
    ∷ (import "p edge 2 1\ne 1 4294967297\n" 3 2, stopped 4 3 2)
    ∷ (import "p edge 2 1\ne 0 0\n" 3 2, stopped 4 3 2)
    ∷ (import "p edge 2 1\ne 2 2\n" 3 2, stopped 5 3 2)
    ∷ (import "p edge 2 3\ne 1 2\ne 2 1\ne 2 2\n" 3 6, stopped 5 3 6)
    -- their count, and where the text ends
    ∷ (import "p edge 2 1\nc\n" 3 2, stopped 13 3 2)
    ∷ (import "p edge 2 0\ne 1 2\n" 3 2, stopped 13 3 2)
    ∷ (import "p edge 2 0\n\n" 3 2, stopped 13 3 2)
    ∷ (import "p edge 2 0\nc" 3 2, stopped 13 3 2)
    ∷ (import "p edge 2 1\ne 1 2\nc the end" 3 2, stopped 13 3 2)
    ∷ (import "p edge 2 2\ne 3 1\nc" 3 4, stopped 4 3 4)
    -- files that are written
    ∷ (export 1 (0 ∷ 0 ∷ []) [] 11, written 11 "p edge 1 0\n" [])
    ∷ (export 3 (0 ∷ 1 ∷ 3 ∷ 4 ∷ []) (1 ∷ 0 ∷ 2 ∷ 1 ∷ []) 24, written 23 "p edge 3 2\ne 1 2\ne 2 3\n" (0 ∷ []))
    ∷ (export 3 (0 ∷ 1 ∷ 3 ∷ 4 ∷ []) (1 ∷ 0 ∷ 2 ∷ 1 ∷ []) 22, unwritten 12 22)
    ∷ (export 3 (0 ∷ 1 ∷ 3 ∷ 4 ∷ []) (1 ∷ 0 ∷ 2 ∷ []) 24, unwritten 9 24)
    ∷ []

pub file_cases : map (λ c. reply c.0) cases ≡ map (λ c. c.1) cases
unfolding cases reply stopped survey unwritten written bytes
    from up_to has all keep gather over is_digit is_number value_from value_of digits_within digits
    on_first split joined on_front cut bind behind after_empty fields_behind field_line numbers_in number_line two_line ordered
    neighbours_of ascending is_survey bad_size accepting named on_links read_on parsed graph_of starts_of neighbours_from reading_of writing_of
    is_comment no_comments uncommented head_line edge_line edge_lines file_text limits_of head_of edge_of read_edges file_of once_after
    importing export_of exporting
file_cases = refl
