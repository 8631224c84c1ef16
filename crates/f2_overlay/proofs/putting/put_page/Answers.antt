use Rattle.f2_overlay.proofs.OwnersMore.{more_one, here_one, right_one}
use Rattle.f2_overlay.proofs.PutPages.{put_none, put_one, own_left, own_put}
use Rattle.f2_overlay.proofs.putting.put_page.Goals as goal

pub returns-then-at-eq0-clause-put : goal.returns-then-at-eq0-clause-put
returns-then-at-eq0-clause-put c = put_none c.args.owner.page c.args.at _ _ c.if-at-eq0.true c.remove.ensures

pub returns-then-at-eq0-clause-own : goal.returns-then-at-eq0-clause-own
returns-then-at-eq0-clause-own c own = own_left c.args.owner.page c.args.at _ _ c.args.owner.ino _ c.remove.ensures own

pub returns-clause-put : goal.returns-clause-put
returns-clause-put c = put_one c.args.owner.page c.args.at _ _ c.in_ok-set.ensures.ok

pub returns-clause-more : goal.returns-clause-more
returns-clause-more c = more_one _ _ _ _ c.in_ok-claim.ensures.alone c.in_ok-claim.ensures.put

pub returns-clause-own : goal.returns-clause-own
returns-clause-own c own =
    own_put c.args.owner.page c.args.at _ _ c.args.owner.ino _ _ c.in_ok-set.ensures.ok (more_one _ _ _ _ c.in_ok-claim.ensures.alone c.in_ok-claim.ensures.put) (here_one _ _ _ _ c.in_ok-claim.ensures.alone c.in_ok-claim.ensures.put)
    c.requires c.if-at-eq0.false own

pub returns-clause-right : goal.returns-clause-right
returns-clause-right c image ckpt sizes is right =
    right_one _ _ _ _ c.in_ok-claim.ensures.alone c.in_ok-claim.ensures.put c.args.g.now image ckpt c.in_ok-claim.ensures.inside sizes (is c.if-at-eq0.false) right
