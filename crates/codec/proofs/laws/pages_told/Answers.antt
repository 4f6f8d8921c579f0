use Rattle.codec.proofs.Pages.{page_told, torn_told, blank_told}
use Rattle.codec.proofs.laws.pages_told.Goals as goal

pub returns : goal.returns
returns c = record { page = page_told; torn = torn_told; blank = blank_told }
