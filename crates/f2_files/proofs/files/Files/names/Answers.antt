use Rattle.std.proofs.Common.{◌≡◌, List, ℕ, Some, sym, ap, subst, ◌∙◌}
use Rattle.std.specs.Prelude.{Result, Ok, Err, IfOk}
use Rattle.std.specs.FinMap as map
use Rattle.f2_model.specs.Rising.{rising}
use Rattle.f2_model.specs.Tree.{names_in}
use Rattle.f2_model.specs.declared.replies.Reply.TheVariants.{Names}
use Rattle.f2_files.specs.Known.{Known}
use Rattle.f2_files.specs.Shape.{IsShapeOf}
use Rattle.f2_files.proofs.Creating.{has_names_map}
use Rattle.f2_files.proofs.Leads.{rooted_good}
use Rattle.f2_files.proofs.Naming.{names_same}
use Rattle.f2_files.proofs.files.Files.names.Goals as goal

told : {E : Type 0} (r : Result (List (List ℕ)) E) (names others : List (List ℕ)) → IfOk r (λ list. list ≡ names) → names ≡ others → IfOk r (λ list. Names list ≡ Names others)
told (Ok list) names others h same = ap Names (h ∙ same)
told (Err e) names others h same = h

pub returns : goal.returns
returns c = λ most tree row good are there kind.
    let shapes = c.self.inside.shapes in
    let dirs = c.self.inside.directories in
    let seen = subst (λ (k : Known). IsShapeOf k.shapes tree) (sym c.self.view_is) are in
    let keyed : row.ino ≡ c.args.ino = good.keyed c.args.ino row there in
    let own : map.get tree row.ino ≡ Some row = ap (λ i. map.get tree i) keyed ∙ there in
    let names = has_names_map shapes dirs c.self.invariant most tree good seen row own kind in
    told c.list.result (map.keys names.0) (rising (names_in (map.values tree) row.ino)) (c.list.ensures names.0 (ap (λ i. map.get dirs i) (sym keyed) ∙ names.1)) (names_same tree (rooted_good most tree good) shapes seen dirs c.self.invariant row.ino names.0 names.1)
