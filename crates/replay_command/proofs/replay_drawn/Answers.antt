use Rattle.replay_command.proofs.PictureEnds.{picture_ends}
use Rattle.replay_command.proofs.replay_drawn.Goals as goal

pub returns : goal.returns
returns g c =
    picture_ends (g.R.Read.remaining c.args.input.now) (g.W.Write.contents c.args.out.now)
    (g.W.Write.contents c.replay_script.new.out) c.args.asked.now c.save.result c.in_ok-replay_script.ensures
    c.save.ensures.only c.save.ensures.named
