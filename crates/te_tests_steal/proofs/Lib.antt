pub mod StillThieves
