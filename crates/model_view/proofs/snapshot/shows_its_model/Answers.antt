use Rattle.audit_model.specs.Models.{instance_at}
use Rattle.model_view.specs.Views.{ShowsItsModel}
use Rattle.model_view.proofs.snapshot.shows_its_model.Goals as goal

shows : ShowsItsModel
shows s v h i = record { instance = λ n. instance_at n v.model; referrers = λ n r. h n r i }

pub returns : goal.returns
returns c = shows
