use Rattle.std.proofs.Common.{◌≡◌, ◌≢◌, ◌∙◌, ℕ, Bool, true, false, List, not, ap, sym, refl, subst, inl, inr}
use Rattle.std.specs.Prelude.{Some, is_some}
use denote.Enum.Bare.{sameb}
use Rattle.f2_model.specs.declared.rows.Kind.{Kind}
use Rattle.f2_model.specs.declared.rows.Kind.TheVariants.{Regular, Directory}
use Rattle.f2_model.specs.contracts.rows.Kind.{the_type}
use Rattle.f2_footer.specs.Footer.{footer_of}
use Rattle.f2_footer.specs.declared.Footer.{Footer}
use Rattle.f2_image.specs.Images.{Image}
use Rattle.f2_image.specs.Packs.{Checkpoint}
use Rattle.f2_image.specs.Bases.{IsReached, inode_kind}
use Rattle.f2_image.specs.Faults.{IsDirectoryOf}
use Rattle.f2_image.specs.Faults as faults
use Rattle.f2_overlay.specs.Names.{IsRightMark}
use Rattle.f2_overlay.proofs.BasedNames.{directory_in, not_directory, reached_in, not_reached, is_some-copied}
use Rattle.f2_overlay.proofs.names.check_file.Goals as goal
use Rattle.f2_overlay.proofs.names.check_file.Goals.{then-eq-via-then-eq, then-eq-via-else-eq+then-is_some}

is_directory : (kind : Kind) → true ≡ sameb the_type kind Directory → kind ≡ Directory
is_directory Directory e = refl
is_directory Regular e = absurd (cc)

is_other : (kind : Kind) → false ≡ sameb the_type kind Directory → kind ≢ Directory
is_other Directory e same = absurd (cc)
is_other Regular e same = absurd (cc)

no_dent : (dent : Bool) → not dent ≡ true → dent ≡ false
no_dent true e = sym e
no_dent false e = refl

has_dent : (dent : Bool) → not dent ≡ false → dent ≡ true
has_dent true e = refl
has_dent false e = sym e

same_kind : (a b : Kind) → Some a ≡ Some b → a ≡ b
same_kind a b e = cc

right_mark : (image : Image) (ckpt : Checkpoint) (block : List ℕ) (footer : Footer) (kind : Kind) → footer ≡ footer_of block → inode_kind block ≡ Some kind → kind ≢ Directory → ¬ (IsDirectoryOf image ckpt footer.ino)
    → (¬ (IsReached image ckpt footer.ino) → footer.dent ≡ true) → IsRightMark image ckpt block
right_mark image ckpt block footer kind own says other file bound =
    let ino = ap (λ (f : Footer). f.ino) own in
    record {
      kind = λ e. other (same_kind kind Directory (sym says ∙ e));
      file = λ directory. file (subst (IsDirectoryOf image ckpt) (sym ino) directory);
      bound = λ fresh. sym (ap (λ (f : Footer). f.dent) own) ∙ bound (λ up. fresh (subst (IsReached image ckpt) ino up));
    }

pub returns-then-eq-clause-fault : goal.returns-then-eq-clause-fault
returns-then-eq-clause-fault c image ckpt place block base marked own kind =
    let ino = sym (ap (λ (f : Footer). f.ino) own) in
    elim c.then-eq.branch [
      | then-eq-via-then-eq w ↦ (base.has, faults.marked_directory place block marked ino (inl (kind ∙ ap Some (is_directory c.args.kind w.if-eq.ensures))))
      | then-eq-via-else-eq+then-is_some w ↦ (
          let there = ap is_some (sym w.get.ensures) ∙ is_some-copied w.get.result ∙ sym w.if-is_some.ensures in
          (base.has, faults.marked_directory place block marked ino (inr (directory_in image ckpt c.args.walk.now base c.args.footer.ino there))))
    ]

pub returns-then-contains-clause-right : goal.returns-then-contains-clause-right
returns-then-contains-clause-right c image ckpt block base own kind =
    let none = ap is_some (sym c.get.ensures) ∙ is_some-copied c.get.result ∙ sym c.if-is_some.ensures in
    right_mark image ckpt block c.args.footer c.args.kind own kind (is_other c.args.kind c.if-eq.ensures) (not_directory image ckpt c.args.walk.now base c.args.footer.ino none)
    (λ fresh. absurd (fresh (reached_in image ckpt c.args.walk.now base c.args.footer.ino (sym c.if-contains.ensures))))

pub returns-then-contains-clause-old : goal.returns-then-contains-clause-old
returns-then-contains-clause-old c old image ckpt base = reached_in image ckpt c.args.walk.now base c.args.footer.ino (sym c.if-contains.ensures)

pub returns-then-not-footer-clause-fault : goal.returns-then-not-footer-clause-fault
returns-then-not-footer-clause-fault c image ckpt place block base marked own kind =
    let fresh = not_reached image ckpt c.args.walk.now base c.args.footer.ino (sym c.if-contains.ensures) in
    (base.has, faults.unbound place block marked (sym (ap (λ (f : Footer). f.ino) own)) fresh (sym (ap (λ (f : Footer). f.dent) own) ∙ no_dent c.args.footer.dent c.if-not-footer.true))

pub returns-clause-right : goal.returns-clause-right
returns-clause-right c image ckpt block base own kind =
    let none = ap is_some (sym c.get.ensures) ∙ is_some-copied c.get.result ∙ sym c.if-is_some.ensures in
    right_mark image ckpt block c.args.footer c.args.kind own kind (is_other c.args.kind c.if-eq.ensures) (not_directory image ckpt c.args.walk.now base c.args.footer.ino none)
    (λ fresh. has_dent c.args.footer.dent c.if-not-footer.false)

pub returns-clause-fresh : goal.returns-clause-fresh
returns-clause-fresh c new image ckpt base = not_reached image ckpt c.args.walk.now base c.args.footer.ino (sym c.if-contains.ensures)
