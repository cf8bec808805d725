use Rattle.words.proofs.Rounds.{no_nan}
use Rattle.words.proofs.convert.integer_to_real.Goals as goal

pub float_to_bits-result : goal.float_to_bits-result
float_to_bits-result c = no_nan _ _ c.nearest_i64_to_f64.ensures
