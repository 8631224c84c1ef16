-- A loss of power.
use Rattle.std.proofs.Common.{◌≡◌, List, [], ◌∷◌, length, refl, ap}
use Rattle.std.specs.Prelude.{map as map_list}
use Rattle.f2_disk.specs.Contents.{alone}
use Rattle.f2_image.specs.Chains.{Logged}
use Rattle.f2_stored.specs.Layout.{Open, Written, Failed, Fate, Position, log_version}
use Rattle.f2_stored.specs.Logs.{HoldsAs}
use Rattle.f2_stored.specs.Stored.{IsStored, running, mounting}
use Rattle.f2_change_laws.specs.Crashing.{torn_fate, torn, CrashesKeep}
use Rattle.f2_change_laws.proofs.Each.{each_weaker, each_map}
use Rattle.f2_change_laws.proofs.Crashed.{crashed_size, crashed_fewer, crashed_whole}
use Rattle.f2_change_laws.proofs.FewerLogs.{fewer_packs, fewer_mount, fewer_none, fewer_log, fewer_alone}

abbrev torn_position : Position → Position
torn_position position = record position { fate = torn_fate position.fate }

same_blocks : (log : List Position) → map_list (λ (position : Position). position.logged) (map_list torn_position log) ≡ map_list (λ (position : Position). position.logged) log
same_blocks [] = refl
same_blocks (one ∷ log) = ap (λ rest. one.logged ∷ rest) (same_blocks log)

pub crashes_keep : CrashesKeep
crashes_keep lists layout state image stored is = by_phase stored
  where
    size : length (alone image) ≡ length lists
    size = crashed_size lists image is

    torn_held : (one : Logged) (fate : Fate) → HoldsAs lists (log_version layout) one fate → HoldsAs (alone image) (log_version layout) one (torn_fate fate)
    torn_held one Open holds = fewer_none lists (alone image) one.at (log_version layout) (crashed_fewer lists image is one.at) holds
    torn_held one Written holds = tt
    torn_held one Failed holds = tt

    by_phase : IsStored lists layout state → IsStored (alone image) (torn layout) state
    by_phase (running packs log) =
        let whole = crashed_whole lists image is packs.whole in
        running (fewer_packs lists (alone image) size whole (crashed_fewer lists image is) layout state (map_list torn_position layout.log) layout.settled packs)
        (fewer_log lists (alone image) size whole (crashed_fewer lists image is) layout state (map_list torn_position layout.log) layout.settled log (same_blocks layout.log)
        (each_map (λ position. HoldsAs (alone image) (log_version layout) position.logged position.fate) torn_position layout.log
        (each_weaker (λ position. HoldsAs lists (log_version layout) position.logged position.fate) (λ position. HoldsAs (alone image) (log_version layout) position.logged (torn_fate position.fate))
        (λ position. torn_held position.logged position.fate) layout.log log.log.held))
        log.log.within (fewer_alone lists (alone image) size whole (crashed_fewer lists image is) layout state layout.settled log.log.settled) log.acknowledged)
    by_phase (mounting packs image_kept) =
        let whole = crashed_whole lists image is packs.whole in
        mounting (fewer_packs lists (alone image) size whole (crashed_fewer lists image is) layout state (map_list torn_position layout.log) layout.settled packs)
        (fewer_mount lists (alone image) size whole (crashed_fewer lists image is) layout state (map_list torn_position layout.log) image_kept)
