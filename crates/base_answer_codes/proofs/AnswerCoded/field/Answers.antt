use native.Mathlib.Omega.{arith}
use Rattle.base_answer_codes.proofs.Decoding.{pair_back}
use Rattle.base_answer_codes.proofs.AnswerCoded.field.Goals as goal

pub returns-clause-back : goal.returns-clause-back
returns-clause-back c = rw (c.route_number.ensures.value, c.hub_number.ensures.value) (pair_back c.args.self (omega arith))
