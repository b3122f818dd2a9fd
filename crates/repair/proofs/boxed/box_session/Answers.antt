-- `repair::boxed::box_session` meets its contract: an accepted box has 8 bytes and its names.
use Rattle.boxes.proofs.Laws.{has_names}
use Rattle.repair.proofs.boxed.box_session.Goals as goal

pub names-requires : goal.names-requires
names-requires c = has_names _ c.requires

pub family-requires : goal.family-requires
family-requires c = (has_names _ c.requires).0

pub block_count-requires : goal.block_count-requires
block_count-requires c = (has_names _ c.requires).0

pub block_length-requires : goal.block_length-requires
block_length-requires c = (has_names _ c.requires).0
