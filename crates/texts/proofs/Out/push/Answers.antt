-- `Out::push` meets its contract: the word is copied over the part past what was put. Assumes nothing.
use Rattle.std.proofs.Common.{refl, arith}
use Rattle.texts.proofs.Puts.{put_word}
use Rattle.texts.proofs.Out.push.Goals as goal

pub returns : goal.returns
returns c =
    let put = put_word _ _ c.requires c.copy_from_slice.ensures.after in
    record { same = refl; put = put; within = omega (arith, c.requires, put.kept) }
