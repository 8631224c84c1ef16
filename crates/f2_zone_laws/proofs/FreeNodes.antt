-- An address that the zone of node blocks gives is free.
use Rattle.std.proofs.Common.{◌≡◌, ◌≢◌, ◌⊎◌, inl, inr, ℕ, ◌≤◌, true, IsTrue, map as map_list, Option, Some, None, refl, sym, ◌∙◌, subst, arith}
use Rattle.std.specs.List.{Contains}
use Rattle.std.specs.FinSet as set
use Rattle.std.proofs.lemmas.Bool.{false≢true}
use Rattle.f2_format.specs.Geometry.{NAT_START, is_in_node}
use Rattle.f2_image.specs.Packs.{other_side}
use Rattle.f2_image.specs.Chains.{chain}
use Rattle.f2_image.specs.Faults.{IsSound}
use Rattle.f2_image_laws.specs.Chained.{Follow}
use Rattle.f2_space.specs.Space.{Space, IsLeastFree}
use Rattle.f2_stored.specs.Layout.{Layout, chained}
use Rattle.f2_stored.specs.Logs.{log_addresses}
use Rattle.f2_stored.specs.Places.{Places}
use Rattle.f2_stored.specs.Changes.{IsReadOf, tells, depends, logged, ends, IsFree}
use Rattle.f2_stored.specs.Kept.{IsElsewhere}
use Rattle.f2_change_laws.proofs.Addresses.{tail_low, tells_low}
use Rattle.f2_change_laws.proofs.Zones.{depends_off}
use Rattle.f2_zone_laws.specs.Covering.{CoversNodes}
use Rattle.f2_zone_laws.specs.Free.{FreeNodesAreFree, FreeNodesOfMounts}
use Rattle.f2_zone_laws.proofs.Zones.{in_node, node_high, node_there, starts_at, none_in}

-- nothing is there where each thing would be refused
pub none_there : {X : Type 0} (found : Option X) → ((x : X) → ¬ (found ≡ Some x)) → found ≡ None
none_there None refused = refl
none_there (Some x) refused = absurd (refused x refl)

module _ (layout : Layout) (places : Places) (space : Space) (at : ℕ) (covers : CoversNodes space layout places) (least : IsLeastFree space at) where
  inside : IsTrue (is_in_node layout.base.ckpt.geom at)
  inside = in_node layout.base.ckpt.geom space.first space.c at covers.first covers.third least.in_range.0 least.in_range.1

  high : NAT_START ≤ at
  high = node_high layout.base.ckpt.geom at inside

  unused : ¬ (set.contains space.used at ≡ true)
  unused there = false≢true (sym least.missing ∙ there)

  -- what is at an address in use is elsewhere
  apart : (other : ℕ) → set.contains space.used other ≡ true → other ≢ at
  apart other there same = unused (subst (λ k. set.contains space.used k ≡ true) same there)

  some_apart : (other : ℕ) → (other ≢ 0 → set.contains space.used other ≡ true) → at ≢ other
  some_apart other there same = apart other (there (λ none. omega (arith, high, same, none))) (sym same)

  not_start : Follow layout.base.ckpt.head.log_start (chained layout) layout.next → at ≢ layout.base.ckpt.head.log_start
  not_start follow same = by_start (starts_at layout.base.ckpt.head.log_start layout.next (chained layout) follow)
    where
      by_start : (layout.base.ckpt.head.log_start ≡ layout.next) ⊎ Contains (log_addresses layout) layout.base.ckpt.head.log_start → ⊥
      by_start (inl next) = some_apart layout.next covers.next (same ∙ next)
      by_start (inr there) = apart layout.base.ckpt.head.log_start (covers.log layout.base.ckpt.head.log_start there) (sym same)

  elsewhere : IsElsewhere places at
  elsewhere = record {
    nodes = λ ino offset node there same. some_apart node.at (covers.live ino offset node there) (sym same);
    pages = λ ino page other there same. apart other (covers.pages ino page other there (subst (λ k. IsTrue (is_in_node layout.base.ckpt.geom k)) (sym same) inside)) same;
  }

  module _ (sound : IsSound layout.base.image layout.base.ckpt) (no_block : ¬ (Contains (map_list (λ one. one.at) (chain layout.base.image layout.base.ckpt)) at))
      (no_end : (next : ℕ) → Follow layout.base.ckpt.head.log_start (chain layout.base.image layout.base.ckpt) next → at ≢ next) where
    not_read : ¬ (IsReadOf layout.base at)
    not_read (tells is) = omega (arith, high, tells_low layout.base.ckpt at is)
    not_read (depends is) = depends_off layout.base.image layout.base.ckpt sound at inside (λ ino offset nid node same. apart _ (covers.base ino offset nid node) same) is
    not_read (logged is) = no_block is
    not_read (ends next follow same) = no_end next follow same

    free : IsFree layout at
    free = record {
      base = not_read;
      pending = λ is. unused (covers.pending at is inside);
      own_tail = λ same. omega (arith, high, same, tail_low layout.base.ckpt.side);
      other_tail = λ same. omega (arith, high, same, tail_low (other_side layout.base.ckpt.side));
      no_position = λ there. unused (covers.log at there);
      not_next = some_apart layout.next covers.next;
      no_owner = none_there _ (λ owner there. unused (covers.owners at owner there inside));
    }

pub free_nodes_are_free : FreeNodesAreFree
free_nodes_are_free lists layout state places space at keeps covers least =
    let in_zone = inside layout places space at covers least in (
      in_zone,
      free layout places space at covers least keeps.base.means.sound no_block no_end,
      elsewhere layout places space at covers least,
      node_there layout.base.image layout.base.ckpt.geom _ at keeps.base.means.checkpoint.sized keeps.base.size in_zone,
    )
  where
    no_block : ¬ (Contains (map_list (λ one. one.at) (chain layout.base.image layout.base.ckpt)) at)
    no_block is = none_in at (subst (λ log. Contains (map_list (λ one. one.at) log) at) keeps.no_log is)

    no_end : (next : ℕ) → Follow layout.base.ckpt.head.log_start (chain layout.base.image layout.base.ckpt) next → at ≢ next
    no_end next follow same = not_start layout places space at covers least keeps.log.linked.follow (same ∙ sym (subst (λ log. Follow layout.base.ckpt.head.log_start log next) keeps.no_log follow))

pub free_nodes_of_mounts : FreeNodesOfMounts
free_nodes_of_mounts lists layout state places space at keeps covers found least =
    let in_zone = inside layout places space at covers least in (
      in_zone,
      free layout places space at covers least keeps.base.means.sound (λ is. unused layout places space at covers least (found.chained at is)) (λ next follow. some_apart layout places space at covers least next (found.ends next follow)),
      elsewhere layout places space at covers least,
      node_there layout.base.image layout.base.ckpt.geom _ at keeps.base.means.checkpoint.sized keeps.base.size in_zone,
    )
