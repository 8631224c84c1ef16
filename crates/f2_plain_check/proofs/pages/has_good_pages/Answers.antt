use Rattle.f2_plain_check.proofs.Together.{good_pages}
use Rattle.f2_plain_check.proofs.pages.has_good_pages.Goals as goal

pub returns-in_ok-has_good_file : goal.returns-in_ok-has_good_file
returns-in_ok-has_good_file c = good_pages c.args.row.now c.in_ok-has_good_file.field-0 (c.has_good_size.ensures.0 c.if-has_good_size.true) c.in_ok-has_good_file.ensures
