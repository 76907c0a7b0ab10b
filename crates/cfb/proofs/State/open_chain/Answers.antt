-- What was listed is handed on, and nothing else was lent to be written.
use Rattle.cfb.proofs.Answering.{opens_listed, opens_refused}
use Rattle.cfb.proofs.State.open_chain.Goals as goal

pub returns-in-Ok : goal.returns-in-Ok
returns-in-Ok c = opens_listed _ _ _ _ _ _ _ c.chain_of.ensures _ c.in-Ok.is

pub returns-in-Err : goal.returns-in-Err
returns-in-Err c = opens_refused _ _ _ _ _ _ _ c.chain_of.ensures _ c.in-Err.is
