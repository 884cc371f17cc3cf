use Rattle.fv_canon.proofs.PositionLaws.{shows_walk, one_image}
use Rattle.fv_canon.proofs.further_laws.one_list_shows.Goals as goal

pub returns : goal.returns
returns c erased total placed bytes o = (λ h. one_image erased total placed bytes o h, λ e. rw e (shows_walk erased total placed o))
