use Rattle.std.proofs.Common.{◌≡◌, ◌≢◌, ℕ, List, ◌++◌, MatchOption}
use Rattle.std.proofs.lemmas.Bool.Decides.{Decides-eqb}
use Rattle.std.proofs.lemmas.Slice.Eq.{strip_prefix_is}
use Rattle.f2_script.proofs.words.after.Goals as goal

pub returns : goal.returns
returns c =
    let h : MatchOption c.strip_prefix.result ((rest : List ℕ) → c.args.text.now ≢ c.args.word.now ++ rest) (λ x. c.args.text.now ≡ c.args.word.now ++ x.now) = strip_prefix_is Decides-eqb c.args.text.now c.args.word.now c.strip_prefix.result c.strip_prefix.ensures.cases in
    h
