use Rattle.std.proofs.Common.{◌≡◌, ◌-◌, List, ℕ, length, take, refl, ap, ◌∙◌}
use Rattle.std.specs.Result.{result_ok}
use Rattle.f2_files.specs.Led.{ino_at}
use Rattle.f2_model.specs.Tree.{walk, parent_path}
use Rattle.f2_call_size.proofs.Ends.{ino_found}
use Rattle.f2_call_size.proofs.calls.directory_of.Goals as goal

pub returns : goal.returns
returns c = λ most tree good are.
    let count : c.saturating_sub.result ≡ length c.args.path.now - 1 = c.saturating_sub.ensures ∙ ap (λ (xs : List (List ℕ)). length xs - 1) c.as_slice-names.ensures in
    ino_found most tree good (parent_path c.args.path.now) (walk tree (parent_path c.args.path.now)) refl c.ok.result (c.ok.ensures.value ∙ ap result_ok (c.walk.ensures most tree good are) ∙ (λ i. result_ok (ino_at (walk tree (take (count i) (c.as_slice-names.ensures i))))))
