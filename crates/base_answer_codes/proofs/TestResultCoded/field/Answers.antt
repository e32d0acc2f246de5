use Rattle.base_answer_codes.proofs.Decoding.{test_back}
use Rattle.base_answer_codes.proofs.TestResultCoded.field.Goals as goal

pub returns-clause-back : goal.returns-clause-back
returns-clause-back c = rw c.verdict_number.ensures.value (test_back c.args.self c.requires)
