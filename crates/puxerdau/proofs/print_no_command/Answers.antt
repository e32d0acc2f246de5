-- What is said is within the buffer.
use Rattle.std.proofs.Common.{sym, length-take-le}
use Rattle.base_lists.proofs.Written.{front_fits}
use Rattle.puxerdau.proofs.print_no_command.Goals as goal

pub slice_bounds-line-end : goal.slice_bounds-line-end
slice_bounds-line-end g c = front_fits c.say_no_command-k.ensures

pub slice_bounds-write_all-end : goal.slice_bounds-write_all-end
slice_bounds-write_all-end g c = sym (length-take-le _ _ (front_fits c.say_no_command-k.ensures))
