use Rattle.base_answer_codes.proofs.Decoding.{size_back}
use Rattle.base_answer_codes.proofs.SizeCoded.field.Goals as goal

pub returns-clause-back : goal.returns-clause-back
returns-clause-back c = size_back c.args.self c.requires.0 c.requires.1
