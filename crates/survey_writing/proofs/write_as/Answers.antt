use mathlib.Core.Path.{sym}
use borrow.Author.Rules.{rules}
use native.Mathlib.Omega.{arith}
use Rattle.std.proofs.lemmas.Result.{err_from_is_err_and}
use Rattle.base_lists.proofs.Written.{wrote_over}
use Rattle.model.proofs.Acceptance.{accepting_facts}
use Rattle.model.specs.Survey.{accepting}
use Rattle.survey_writing.proofs.LineLaws.{text_refused_lem, text_short, text_whole}
use Rattle.survey_writing.proofs.write_as.Goals as goal

pub returns-in_err-accept : goal.returns-in_err-accept
returns-in_err-accept g c =
    let refused = err_from_is_err_and c.from_residual.result c.from_residual.ensures.1 in
    rw (refused.1, refused.2) (text_refused_lem _ _ c.in_err-accept.field-0.0 c.in_err-accept.ensures)

pub invariant_of-survey : goal.invariant_of-survey
invariant_of-survey g c = record { accepted = accepting_facts _ _ _ tt (sym c.in_ok-accept.ensures) }

pub returns-then-buffer-length : goal.returns-then-buffer-length
returns-then-buffer-length g c = text_short _ _ c.in_ok-accept.ensures (omega arith)

pub returns : goal.returns
returns g c =
    let accepted = accepting c.args.n c.args.starts.now c.args.neighbours.now in
    let written = (wrote_over _ c.write_text.ensures.wrote).0 in
    let whole = text_whole {o = accepted} _ _ c.in_ok-accept.ensures (omega arith) written c.text_length-length.ensures in
    search rules
