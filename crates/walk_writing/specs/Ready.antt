-- What a walk that is to be written rests on.
-- Assumes nothing.
use Rattle.std.specs.Prelude.{◌≡◌, ℕ, ◌<◌}
use Rattle.model.specs.declared.Route.TheVariants.{Through}
use Rattle.model.specs.declared.Answer.{Answer}

-- what is known, beside the survey of n nodes and the tables of m, where nothing was refused before the steps
pub record Ready (n m : ℕ) (a b : ℕ) (x : Answer) : Type 0 where
  pub same : m ≡ n
  pub first : a < n
  pub last : b < n
  pub hub : (h : ℕ) → x.route ≡ Through h → h < n
