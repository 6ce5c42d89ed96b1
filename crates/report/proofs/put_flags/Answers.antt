-- `put_flags` meets its contract. Assumes nothing.
use Rattle.report.specs.Lines.{flag_digits}
use Rattle.report.proofs.put_flags.Goals as goal

pub returns : goal.returns
unfolding flag_digits
returns c = record { value = c.put_text.ensures.value; buffer_after = cc c.put_text.ensures.buffer_after }
