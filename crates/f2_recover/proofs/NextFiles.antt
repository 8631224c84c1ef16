-- From one file of the base to the next: all nodes and pages of a file that was read came before.
use Rattle.std.proofs.Common.{◌≡◌, ◌⊎◌, inl, inr, ℕ, ◌<◌, true, false, sym, ap, ◌∙◌, subst, arith}
use Rattle.std.specs.Ordering.{nat_cmp}
use Rattle.std.specs.FinSet as set
use Rattle.f2_format.specs.Offsets.{page_limit}
use Rattle.f2_image.specs.Images.{Image}
use Rattle.f2_image.specs.Packs.{Checkpoint}
use Rattle.f2_image.specs.Reached.{IsNode, inode, named, IsBasePage}
use Rattle.f2_recover.specs.Taking.{Taken, IsBefore, AreTaken}
use Rattle.f2_recover.specs.Seeing.{node_limit}
use Rattle.f2_recover.proofs.Ups.{Up, up, one, second_top, double_top, first, second, double, low}
use Rattle.f2_recover.proofs.Sets.{Numbers, not_both, here, stays, one_of}

up_within : (upper slot lower : ℕ) → Up upper slot lower → upper < node_limit → lower < node_limit
up_within upper slot lower (one e small is) within = omega (arith, is, small)
up_within upper slot lower (second_top e s is) within = omega (arith, is)
up_within upper slot lower (double_top e s is) within = omega (arith, is)
up_within upper slot lower (first e small is) within = omega (arith, is, small)
up_within upper slot lower (second e small is) within = omega (arith, is, small)
up_within upper slot lower (double e small is) within = omega (arith, is, small)
up_within upper slot lower (low x e small is) within = omega (arith, e, is, small, within)

module _ (image : Image) (ckpt : Checkpoint) where
  -- no node of a file has an offset at or past the limit
  pub node_within : (ino offset nid : ℕ) → IsNode image ckpt ino offset nid → offset < node_limit
  node_within _ _ _ (inode ino reached) = omega arith
  node_within _ _ _ (named ino offset nid slot lower block is there small below some) = up_within offset slot lower (up offset slot lower small below) (node_within ino offset nid is)

  module _ (inos : Numbers) (ino next : ℕ) (taken : Taken) (are : AreTaken image ckpt inos ino node_limit page_limit taken) (other_file : set.contains (set.insert inos ino) next ≡ false) where
    abbrev more : Numbers
    more = set.insert inos ino

    earlier : (limit other place : ℕ) → IsBefore inos ino limit other place → IsBefore more next 0 other place
    earlier limit other place (inl before) = inl (stays inos ino other before)
    earlier limit other place (inr own) = inl (subst (λ i. set.contains more i ≡ true) (sym own.0) (here inos ino))

    back : (limit other place : ℕ) → place < limit → IsBefore more next 0 other place → IsBefore inos ino limit other place
    back limit other place small (inr own) = absurd (omega (arith, own.1))
    back limit other place small (inl before) = by (one_of inos ino other before)
      where
        by : (other ≡ ino) ⊎ (set.contains inos other ≡ true) → IsBefore inos ino limit other place
        by (inl same) = inr (same, small)
        by (inr old) = inl old

    node_back : (other place nid : ℕ) → IsNode image ckpt other place nid → IsBefore more next 0 other place → IsBefore inos ino node_limit other place
    node_back other place nid is before = back node_limit other place (node_within other place nid is) before

    page_back : (other place at : ℕ) → IsBasePage image ckpt other place at → IsBefore more next 0 other place → IsBefore inos ino page_limit other place
    page_back other place at is before = back page_limit other place is.within before

    -- once a file was read, the next one may be
    pub next_file : AreTaken image ckpt more next 0 0 taken
    next_file = record {
      fresh = other_file;
      nodes = λ at h. let t = are.nodes at h in record { other = t.other; more = t.more; nid = t.nid; is = t.is; address = t.address; before = earlier node_limit t.other t.more t.before };
      pages = λ at h. let t = are.pages at h in record { other = t.other; more = t.more; is = t.is; before = earlier page_limit t.other t.more t.before };
      nids = are.nids;
      right_nodes = λ other place nid is before. are.right_nodes other place nid is (node_back other place nid is before);
      right_pages = λ other place at is before. are.right_pages other place at is (page_back other place at is before);
      nodes_apart = λ other place nid own spot one_nid is too before also same. are.nodes_apart other place nid own spot one_nid is too (node_back other place nid is before) (node_back own spot one_nid too also) same;
      pages_apart = λ other place own spot at is too before also. are.pages_apart other place own spot at is too (page_back other place at is before) (page_back own spot at too also);
    }

  -- before the first file nothing was taken
  pub first_file : (ino : ℕ) (taken : Taken) → taken.nodes ≡ set.empty → taken.pages ≡ set.empty → taken.nids ≡ set.empty → AreTaken image ckpt set.empty ino 0 0 taken
  first_file ino taken nodes pages nids = record {
    fresh = set.contains-empty nat_cmp ino;
    nodes = λ at h. absurd (none taken.nodes nodes at h);
    pages = λ at h. absurd (none taken.pages pages at h);
    nids = λ nid h. absurd (none taken.nids nids nid h);
    right_nodes = λ other place nid is before. absurd (not_before other place before);
    right_pages = λ other place at is before. absurd (not_before other place before);
    nodes_apart = λ other place nid own spot one_nid is too before also same. absurd (not_before other place before);
    pages_apart = λ other place own spot at is too before also. absurd (not_before other place before);
  }
    where
      none : (s : Numbers) → s ≡ set.empty → (k : ℕ) → set.contains s k ≡ true → ⊥
      none s empty k h = not_both h (ap (λ (t : Numbers). set.contains t k) empty ∙ set.contains-empty nat_cmp k)

      not_before : (other place : ℕ) → IsBefore set.empty ino 0 other place → ⊥
      not_before other place (inl h) = not_both h (set.contains-empty nat_cmp other)
      not_before other place (inr own) = omega (arith, own.1)
