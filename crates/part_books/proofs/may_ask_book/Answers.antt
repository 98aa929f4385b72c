use Rattle.part_books.proofs.BookLaws as laws
use Rattle.part_books.proofs.may_ask_book.Goals as goal

pub returns : goal.returns
returns c = laws.may_ask_book
