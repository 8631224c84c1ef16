use Rattle.std.proofs.Common.{◌*◌, ap, sym, is_some, ◌∙◌, arith}
use Rattle.std.specs.FinMap as map
use Rattle.f2_nat_cache.specs.Entries.{Entries, DirtyTable, CleanTable}
use Rattle.f2_nat_cache.specs.Table.{Table, pending}
use Rattle.f2_nat_cache.proofs.Counts.{within_insert}
use Rattle.f2_nat_cache.proofs.Kept.{apart_put, kept_fewer, fewer_without, there_before}
use Rattle.f2_nat_cache.proofs.cache.Cache.put_ready.Goals as goal

pub invariant_of-self : goal.invariant_of-self
invariant_of-self c =
    let is = c.self.invariant in
    let dirty = c.put_ready.ensures in
    let clean = c.forget.ensures.left in
    let entries = ap (λ (d : DirtyTable). d.entries) dirty in
    let left = ap (λ (t : CleanTable). t.entries) clean in
    record {
      sizes = ap (λ (d : DirtyTable). d.nat) dirty ∙ is.sizes;
      geometry = is.geometry;
      blocks = is.blocks;
      within = λ nid there.
          within_insert c.self.inside.dirty.entries c.args.nid c.args.e (455 * c.self.inside.geometry.nat)
          (omega (arith, c.requires.nid, ap (λ (t : Table). t.geom.nat) c.self.view_is)) is.within nid (sym (ap (λ (m : Entries). is_some (map.get m nid)) entries) ∙ there);
      bounded = c.forget.ensures.bounded;
      clean_within = λ nid there. is.clean_within nid (there_before c.self.inside.clean.entries c.args.nid nid (sym (ap (λ (m : Entries). is_some (map.get m nid)) left) ∙ there));
      apart = λ nid there.
          ap (λ (d : Entries). pending d c.self.inside.journal nid) entries
          ∙ apart_put c.self.inside.dirty.entries c.self.inside.clean.entries c.self.inside.journal c.args.nid c.args.e is.apart nid (sym (ap (λ (m : Entries). is_some (map.get m nid)) left) ∙ there);
    }

pub returns-clause-still_kept : goal.returns-clause-still_kept
returns-clause-still_kept c told =
    kept_fewer c.args.self.now _ told
    (ap (λ (t : Table). t.geom) c.self.view_is) (ap (λ (t : Table). t.bitmap) c.self.view_is) (ap (λ (t : Table). t.held) c.self.view_is)
    (fewer_without c.args.self.now.clean c.forget.new.self.entries c.args.nid (ap (λ (t : CleanTable). t.entries) c.forget.ensures.left ∙ ap (λ (t : Table). map.remove t.clean c.args.nid) c.self.view_is))
