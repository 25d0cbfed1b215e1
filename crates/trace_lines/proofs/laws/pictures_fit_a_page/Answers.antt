use Rattle.trace_lines.proofs.PictureLaws.{fit}
use Rattle.trace_lines.proofs.laws.pictures_fit_a_page.Goals as goal

pub returns : goal.returns
returns c = fit
