use Rattle.std.proofs.Common.{[]}
use Rattle.f2_script.specs.Paths.{AreNames}
use Rattle.f2_script.proofs.Growth.{grows_more, grows_none, grows_end}
use Rattle.f2_script.proofs.PathLemmas.{split_cut, split_whole, names_begin, names_none}
use Rattle.f2_script.proofs.paths.names_of.Goals as goal

pub returns-in_default-2 : goal.returns-in_default-2
returns-in_default-2 c =
    grows_none _ _ _ c.loop-part.invariant
    (names_none _ _ c.in-Some.part.now (split_cut 47 _ _ _ c.in-Some.ensures) (rw c.in_default-2.is at c.in_ok-name.ensures))

pub loop-part-preserved : goal.loop-part-preserved
loop-part-preserved c =
    grows_more _ _ _ _ _ _ c.loop-part.invariant
    (names_begin _ _ c.in-Some.part.now c.in-Some-2.name (split_cut 47 _ _ _ c.in-Some.ensures) (rw c.in-Some-2.is at c.in_ok-name.ensures)) c.in_ok-push.ensures.ok

pub returns-in_default-3 : goal.returns-in_default-3
returns-in_default-3 c =
    grows_none _ _ _ c.loop-part.invariant
    (names_none _ _ c.loop-part.left.now (split_whole 47 _ c.in_default.ensures) (rw c.in_default-3.is at c.in_ok-name-2.ensures))

pub returns : goal.returns
returns c =
    grows_end _ (AreNames []) _
    (grows_more _ _ (AreNames []) _ _ c.in-Some-3.name c.loop-part.invariant
    (names_begin _ [] c.loop-part.left.now c.in-Some-3.name (split_whole 47 _ c.in_default.ensures) (rw c.in-Some-3.is at c.in_ok-name-2.ensures)) c.in_ok-push-2.ensures.ok)
    tt
