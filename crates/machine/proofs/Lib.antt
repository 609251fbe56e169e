pub mod UndoActs
