use Rattle.std.proofs.Common.{◌++◌, take}
use Rattle.std.specs.FinMap as map
use Rattle.f2_call_size.specs.Beyond.{IsBeyond, listed}
use Rattle.f2_call_size.proofs.pages.new_pages.Given as goal

-- the pages so far beyond the file's own
abbrev pub invariant-loop-page : goal.invariant-loop-page
invariant-loop-page l = IsBeyond (listed (map.keys l.own)) l.found (listed (map.keys l.own ++ take l.page-index l.more))
