use Rattle.base_answer_codes.proofs.Decoding.{count_back}
use Rattle.base_answer_codes.proofs.UsizeCoded.field.Goals as goal

pub returns-clause-back : goal.returns-clause-back
returns-clause-back c = count_back _
