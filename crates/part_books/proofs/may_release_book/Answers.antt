use Rattle.part_books.proofs.BookLaws as laws
use Rattle.part_books.proofs.may_release_book.Goals as goal

pub returns : goal.returns
returns c = laws.may_release_book
