use Rattle.std.proofs.Common.{ℕ, ap, sym, subst, ◌∙◌, arith}
use Rattle.std.specs.FinMap as map
use Rattle.f2_format.specs.Geometry.{nat_address}
use Rattle.f2_format.specs.Nat.{is_second_copy, nat_block_of}
use Rattle.f2_nat_cache.specs.Entries.{Entries, CleanTable, MayAdd}
use Rattle.f2_nat_cache.specs.Table.{Table, copy_address, pending}
use Rattle.f2_nat_cache.proofs.Kept.{apart_more, below_more, entry_clean, kept_more, none_pending, read_at, told_same}
use Rattle.f2_nat_cache.proofs.cache.Cache.get.Goals as goal

pub returns-in-Some-get-clause-entry : goal.returns-in-Some-get-clause-entry
returns-in-Some-get-clause-entry g c =
    let found = ap (λ (t : Table). map.get t.clean c.args.nid) (sym c.self.view_is) ∙ sym c.in-Some-get.ensures.value in
    entry_clean c.args.self.now (g.D.Disk.contents c.args.disk.now) c.args.nid c.in-Some-get.e (sym c.in_default.ensures) found c.requires.kept

pub invariant_of-self-2 : goal.invariant_of-self-2
invariant_of-self-2 g c =
    let is = c.self.invariant in
    let more = subst (λ (m : Entries). MayAdd c.args.nid c.in_ok-e.e m c.add.new.self.entries) (ap (λ (t : CleanTable). t.entries) c.get.ensures.same) c.in_ok-add.ensures.others in
    let none =
    ap (λ (t : Table). pending t.dirty t.journal c.args.nid) c.self.view_is
    ∙ none_pending c.args.self.now.dirty c.args.self.now.journal c.args.nid _ (sym c.in_default.ensures) in
    record {
      sizes = is.sizes;
      geometry = is.geometry;
      blocks = is.blocks;
      within = is.within;
      bounded = c.in_ok-add.ensures.bounded;
      clean_within = below_more _ c.self.inside.clean.entries c.add.new.self.entries c.args.nid c.in_ok-e.e
          (omega (arith, c.requires.nid, ap (λ (t : Table). t.geom.nat) c.self.view_is)) more is.clean_within;
      apart = apart_more c.self.inside.dirty.entries c.self.inside.clean.entries c.add.new.self.entries c.self.inside.journal c.args.nid c.in_ok-e.e none more is.apart;
    }

pub returns-clause-still_kept : goal.returns-clause-still_kept
returns-clause-still_kept g c =
    let here =
    c.nat_at-at.ensures.value ∙ ap (nat_address c.self.inside.geometry c.locate-block.result.0) c.get-2.ensures
    ∙ ap (λ (l : ℕ × ℕ). nat_address c.self.inside.geometry l.0 (is_second_copy c.self.inside.bitmap l.0)) c.locate-block.ensures
    ∙ ap (λ (t : Table). copy_address t (nat_block_of c.args.nid)) c.self.view_is in
    let read = read_at c.args.self.now (g.D.Disk.contents c.args.disk.now) c.args.nid c.nat_at-at.result c.locate-block.result.1 c.in_ok-e.e here (ap (λ (l : ℕ × ℕ). l.1) c.locate-block.ensures) c.in_ok-e.ensures.entry in
    let more = subst (λ (m : Entries). MayAdd c.args.nid c.in_ok-e.e m c.add.new.self.entries) (ap (λ (t : CleanTable). t.entries) c.get.ensures.same ∙ ap (λ (t : Table). t.clean) c.self.view_is) c.in_ok-add.ensures.others in
    told_same _ (g.D.Disk.contents c.args.disk.now) _ c.in_ok-e.ensures.reads.kept
    (kept_more c.args.self.now _ (g.D.Disk.contents c.args.disk.now) c.args.nid c.in_ok-e.e
    (ap (λ (t : Table). t.geom) c.self.view_is) (ap (λ (t : Table). t.bitmap) c.self.view_is) (ap (λ (t : Table). t.held) c.self.view_is)
    c.requires.kept read more)
