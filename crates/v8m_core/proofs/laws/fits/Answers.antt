use Rattle.v8m_core.proofs.FitLaws.{fits_reset, fits_step, fits_turn}
use Rattle.v8m_core.proofs.laws.fits.Goals as goal

pub returns-clause-reset : goal.returns-clause-reset
returns-clause-reset c = fits_reset

pub returns-clause-step : goal.returns-clause-step
returns-clause-step c device s h = (fits_step device s h).by

pub returns-clause-turn : goal.returns-clause-turn
returns-clause-turn c device t s w h = (fits_turn device t s w h).by
