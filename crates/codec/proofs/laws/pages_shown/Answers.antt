use Rattle.codec.proofs.Shown.{written_page, torn_page, blank_page_lem}
use Rattle.codec.proofs.laws.pages_shown.Goals as goal

pub returns : goal.returns
returns c = record { written = written_page; torn = torn_page; blank = blank_page_lem }
