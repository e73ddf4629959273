-- The kind is the first byte's high half, and what is printed is of the number and the buffer that the call leaves.
use Rattle.std.proofs.Common.{refl}
use Rattle.bill_step.specs.AnswerLaws.{printed}
use Rattle.bill_step.proofs.step.Goals as goal

pub returns : goal.returns
returns c =
    let posts = c.post-posted.ensures.posts in
    record {
      posts = posts;
      prints = printed c.args.course.position (c.type_inv.bytes 0).fits posts (rw c.number_of-number.ensures at c.answer_lines-at.ensures);
      counts = refl;
    }
