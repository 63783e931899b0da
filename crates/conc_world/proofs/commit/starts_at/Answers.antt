use Rattle.conc_world.proofs.commit.starts_at.Goals as goal
use Rattle.frame_stack.proofs.Progress.{is_doing}

pub compare_starts-requires : goal.compare_starts-requires
compare_starts-requires c = is_doing c.args.slice.now.start c.args.slice.now.doing
