-- An address that the zone of data blocks gives is free.
use Rattle.std.proofs.Common.{◌≡◌, ◌≢◌, inl, inr, ℕ, ◌≤◌, ◌<◌, true, IsTrue, length, map as map_list, refl, sym, ◌∙◌, subst, arith}
use Rattle.std.specs.List.{Contains, AllByRecursion}
use Rattle.std.specs.FinSet as set
use Rattle.std.proofs.lemmas.Bool.{false≢true}
use Rattle.f2_format.specs.Geometry.{NAT_START, is_in_node, is_in_data}
use Rattle.f2_image.specs.Packs.{other_side}
use Rattle.f2_image.specs.Chains.{Logged, chain}
use Rattle.f2_image.specs.Reached.{IsPage, IsMarkedPage}
use Rattle.f2_image.specs.Faults.{IsSound}
use Rattle.f2_image_laws.specs.Chained.{Follow}
use Rattle.f2_space.specs.Space.{Space, IsLeastFree}
use Rattle.f2_stored.specs.Layout.{Layout}
use Rattle.f2_stored.specs.Logs.{IsLogAddress, log_addresses}
use Rattle.f2_stored.specs.Places.{Places}
use Rattle.f2_stored.specs.Changes.{IsReadOf, tells, depends, logged, ends, IsFree}
use Rattle.f2_stored.specs.Kept.{IsElsewhere}
use Rattle.f2_change_laws.proofs.Addresses.{tail_low, tells_low}
use Rattle.f2_change_laws.proofs.Zones.{start_in_zone}
use Rattle.f2_change_laws.proofs.ChainZones.{chain_in_zone, end_in_zone}
use Rattle.f2_change_laws.proofs.Each.{each_at, each_map}
use Rattle.f2_zone_laws.specs.Covering.{CoversPages}
use Rattle.f2_zone_laws.specs.Free.{FreePagesAreFree, FreePagesOfMounts}
use Rattle.f2_zone_laws.proofs.Zones.{in_data, data_high, data_there, zones_apart, none_in, only_pages}
use Rattle.f2_zone_laws.proofs.FreeNodes.{none_there}

module _ (layout : Layout) (places : Places) (space : Space) (at : ℕ) (covers : CoversPages space layout places) (least : IsLeastFree space at) where
  inside : IsTrue (is_in_data layout.base.ckpt.geom at)
  inside = in_data layout.base.ckpt.geom space.first space.c at covers.first covers.third least.in_range.0 least.in_range.1

  high : NAT_START ≤ at
  high = data_high layout.base.ckpt.geom at inside

  unused : ¬ (set.contains space.used at ≡ true)
  unused there = false≢true (sym least.missing ∙ there)

  apart : (other : ℕ) → set.contains space.used other ≡ true → other ≢ at
  apart other there same = unused (subst (λ k. set.contains space.used k ≡ true) same there)

  -- nothing of the node zone stands there
  no_node : (other : ℕ) → (other ≢ 0 → IsTrue (is_in_node layout.base.ckpt.geom other)) → at ≢ other
  no_node other is same =
      zones_apart layout.base.ckpt.geom at (subst (λ k. IsTrue (is_in_node layout.base.ckpt.geom k)) (sym same) (is (λ none. omega (arith, high, same, none)))) inside

  elsewhere : IsElsewhere places at
  elsewhere = record {
    nodes = λ ino offset node there same. apart node.at (covers.nodes ino offset node there (subst (λ k. IsTrue (is_in_data layout.base.ckpt.geom k)) (sym same) inside)) same;
    pages = λ ino page other there same. apart other (covers.live ino page other there (λ none. omega (arith, high, same, none))) same;
  }

  no_page : ((ino page : ℕ) → ¬ (IsMarkedPage layout.base.image layout.base.ckpt ino page at)) → (ino page : ℕ) → ¬ (IsPage layout.base.image layout.base.ckpt ino page at)
  no_page no_mark ino page (inl is) = unused (covers.base ino page at is)
  no_page no_mark ino page (inr is) = no_mark ino page is

  module _ (sound : IsSound layout.base.image layout.base.ckpt) (no_mark : (ino page : ℕ) → ¬ (IsMarkedPage layout.base.image layout.base.ckpt ino page at))
      (no_block : ¬ (Contains (map_list (λ one. one.at) (chain layout.base.image layout.base.ckpt)) at))
      (no_end : (next : ℕ) → Follow layout.base.ckpt.head.log_start (chain layout.base.image layout.base.ckpt) next → at ≢ next)
      (no_position : ¬ (Contains (log_addresses layout) at)) (not_next : at ≢ layout.next) where
    not_read : ¬ (IsReadOf layout.base at)
    not_read (tells is) = omega (arith, high, tells_low layout.base.ckpt at is)
    not_read (depends is) = only_pages layout.base.image layout.base.ckpt sound at inside (no_page no_mark) is
    not_read (logged is) = no_block is
    not_read (ends next follow same) = no_end next follow same

    free : IsFree layout at
    free = record {
      base = not_read;
      pending = λ is. unused (covers.pending at is inside);
      own_tail = λ same. omega (arith, high, same, tail_low layout.base.ckpt.side);
      other_tail = λ same. omega (arith, high, same, tail_low (other_side layout.base.ckpt.side));
      no_position = no_position;
      not_next = not_next;
      no_owner = none_there _ (λ owner there. unused (covers.owners at owner there));
    }

pub free_pages_are_free : FreePagesAreFree
free_pages_are_free lists layout state places space at keeps covers least =
    let in_zone = inside layout places space at covers least in (
      in_zone,
      free layout places space at covers least keeps.base.means.sound no_mark no_block no_end no_position (no_node layout places space at covers least layout.next (λ some. (keeps.log.next some).0)),
      elsewhere layout places space at covers least,
      data_there layout.base.image layout.base.ckpt.geom _ at keeps.base.means.checkpoint.sized keeps.base.size in_zone,
    )
  where
    no_mark : (ino page : ℕ) → ¬ (IsMarkedPage layout.base.image layout.base.ckpt ino page at)
    no_mark ino page is = let few = subst (λ log. is.place < length log) keeps.no_log is.marked.within in omega (arith, few)

    no_block : ¬ (Contains (map_list (λ one. one.at) (chain layout.base.image layout.base.ckpt)) at)
    no_block is = none_in at (subst (λ log. Contains (map_list (λ one. one.at) log) at) keeps.no_log is)

    no_end : (next : ℕ) → Follow layout.base.ckpt.head.log_start (chain layout.base.image layout.base.ckpt) next → at ≢ next
    no_end next follow same =
        no_node layout places space at covers least layout.base.ckpt.head.log_start (λ some. start_in_zone layout.base.image layout.base.ckpt keeps.base.means.checkpoint) (
        same ∙ sym (subst (λ log. Follow layout.base.ckpt.head.log_start log next) keeps.no_log follow)
        )

    no_position : ¬ (Contains (log_addresses layout) at)
    no_position there = no_node layout places space at covers least at (λ some. (each_at (IsLogAddress layout) (log_addresses layout) keeps.log.addresses at there).0) refl

pub free_pages_of_mounts : FreePagesOfMounts
free_pages_of_mounts lists layout state places space at keeps covers found least =
    let in_zone = inside layout places space at covers least in
    let refused = unused layout places space at covers least in (
      in_zone,
      free layout places space at covers least keeps.base.means.sound (λ ino page is. refused (found.marked ino page at is)) no_block no_end (λ there. refused (found.log at there in_zone)) (
          λ same. apart layout places space at covers least layout.next (found.next (subst (λ k. IsTrue (is_in_data layout.base.ckpt.geom k)) same in_zone)) (sym same)
          ),
      elsewhere layout places space at covers least,
      data_there layout.base.image layout.base.ckpt.geom _ at keeps.base.means.checkpoint.sized keeps.base.size in_zone,
    )
  where
    in_chain : AllByRecursion (λ k. IsTrue (is_in_node layout.base.ckpt.geom k)) (map_list (λ (one : Logged). one.at) (chain layout.base.image layout.base.ckpt))
    in_chain =
        each_map (λ k. IsTrue (is_in_node layout.base.ckpt.geom k)) (λ (one : Logged). one.at) (chain layout.base.image layout.base.ckpt)
        (chain_in_zone layout.base.image layout.base.ckpt keeps.base.means.checkpoint keeps.base.means.sound)

    no_block : ¬ (Contains (map_list (λ one. one.at) (chain layout.base.image layout.base.ckpt)) at)
    no_block is = no_node layout places space at covers least at (λ some. each_at (λ k. IsTrue (is_in_node layout.base.ckpt.geom k)) _ in_chain at is) refl

    no_end : (next : ℕ) → Follow layout.base.ckpt.head.log_start (chain layout.base.image layout.base.ckpt) next → at ≢ next
    no_end next follow = no_node layout places space at covers least next (end_in_zone layout.base.image layout.base.ckpt keeps.base.means.checkpoint keeps.base.means.sound next follow)
