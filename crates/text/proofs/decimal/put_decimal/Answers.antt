use Rattle.text.proofs.Decimals.{written_read}
use Rattle.text.proofs.decimal.put_decimal.Goals as goal

pub returns-clause-read_again : goal.returns-clause-read_again
returns-clause-read_again c = written_read c.args.n
