-- `mugi::Mugi::step` meets its contract: the state is moved with what F gives.
-- Assumes nothing.
use Rattle.mugi.proofs.Steps.{stepped}
use Rattle.mugi.proofs.Mugi.step.Goals as goal

pub returns : goal.returns
returns c = stepped c.args.self c.moved.result c.first-x.result c.second-y.result c.first-x.ensures c.second-y.ensures c.moved.ensures
